use Rattle.std.proofs.Common.{sym, ap, length, ◌∙◌, rules, arith}
use Rattle.key_mask.proofs.PrefixLemmas.{prefix_short}
use Rattle.key_mask.proofs.printing.put_prefix.Goals as goal

pub push_str-requires-then-prefix-width : goal.push_str-requires-then-prefix-width
push_str-requires-then-prefix-width c =
    let short = prefix_short c.args.field c.args.prefix c.requires.fits (λ e. c.if-prefix-width.true (e ∙ sym c.width.ensures)) in
    (search rules, omega (arith, short, ap length c.format.ensures.text, c.push_str.ensures.len, c.requires.room))

pub returns-then-prefix-width-clause-short : goal.returns-then-prefix-width-clause-short
returns-then-prefix-width-clause-short c =
    let short = prefix_short c.args.field c.args.prefix c.requires.fits (λ e. c.if-prefix-width.true (e ∙ sym c.width.ensures)) in
    omega (arith, short, ap length c.format.ensures.text, c.push_str.ensures.len, c.push_str-then-prefix-width.ensures.len)
