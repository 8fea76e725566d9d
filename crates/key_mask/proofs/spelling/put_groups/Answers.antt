use Rattle.std.proofs.Common.{◌++◌, [], ◌∷◌, get_or, sym, ap, ◌∙◌, arith, rules, length, ◌<◌}
use Rattle.key_mask.specs.Ipv6.{group_text}
use Rattle.key_mask.proofs.Ipv6PrintLemmas.{groups_more}
use Rattle.key_mask.proofs.spelling.put_groups.Goals as goal

pub groups-preserved : goal.groups-preserved
groups-preserved c =
    let within : c.groups.k < length c.args.groups.now = search rules in
    let more = groups_more c.args.line.now.bytes c.args.groups.now c.groups.k (omega arith) within in
    record {
      text = c.put_group-in-groups.ensures.text ∙ ap (λ b. b ++ group_text (get_or c.args.groups.now c.groups.k 0)) (c.push_str.ensures.bytes ∙ ap (λ b. b ++ 58 ∷ []) c.groups.invariant.text) ∙ sym more;
      short = omega (arith, c.put_group-in-groups.ensures.short, c.push_str.ensures.len, c.groups.invariant.short);
    }
