-- One packet through groups in order.
use Rattle.std.proofs.Common.{◌≡◌, ℕ, suc, ◌+◌, ◌<◌, ◌≤◌, List, [], ◌++◌, length, get_or, ap, ap₂, sym, ◌∙◌, arith, append_assoc, ⊎_elim}
use Rattle.std.proofs.Math.ListN.{get_or-eq_default}
use Rattle.std.proofs.lemmas.Bool.{cases_lt}
use Rattle.addr_translate.specs.declared.shapes.GroupShape.{GroupShape}
use Rattle.addr_translate.specs.Geometry.{no_group, group_number}
use Rattle.pipe_core.proofs.FirstLemmas.{in_group}
use Rattle.std.specs.Prelude.{Option}
use Rattle.std.proofs.lemmas.List.{append-nil}
use Rattle.std.proofs.lemmas.List.Elements.{All-weaker}
use Rattle.std.proofs.lemmas.List.Sums.{fold-append}
use Rattle.reg_file.specs.declared.traits.Call.{Call}
use Rattle.reg_file.specs.Registers.{Contents}
use Rattle.outside.specs.Told.{Told, Grows}
use Rattle.outside.proofs.ToldLemmas.{told_then, told_weaker, grows_then, grows_none, stays_same}
use Rattle.reg_file.specs.Calls.{made, all_made, handed, Makes}
use Rattle.pipe_core.specs.Rules.{Rules, first_in, cmus_in}
use Rattle.pipe_core.specs.Groups.{group_calls}
use Rattle.pipe_core.proofs.GroupLemmas.{IsWithin, group_within}
use Rattle.pipe_core.specs.Flow.{Stages, flow}
use Rattle.pipe_flight.specs.Schedules.{AreStaged}
use Rattle.pipe_flight.proofs.PlaceLemmas.{flow_same, FromGroup, staged_from, same_after}
use Rattle.pipe_core.specs.Flow.{stages_in}
use Rattle.reg_file.specs.Calls.{MakesOver}

-- no array is one of a group that does not exist
pub past_all : (groups : List GroupShape) (group : ℕ) → length groups ≤ group → (get_or groups group no_group).cmus ≡ 0
past_all groups group le = ap (λ (g : GroupShape). g.cmus) (get_or-eq_default groups no_group le)

in_its_group : (rules : Rules) (group array : ℕ) → first_in rules group ≤ array → array < first_in rules group + cmus_in rules group → group_number rules.geometry array ≡ group
in_its_group rules group array low high =
    ⊎_elim
    (λ (less : group < length rules.geometry.groups). in_group rules group array less low high)
    (λ (more : length rules.geometry.groups ≤ group). absurd (omega (arith, past_all rules.geometry.groups group more, low, high)))
    (cases_lt group (length rules.geometry.groups))

-- rules make in a group calls on its arrays alone
pub staged : (rules : Rules) → AreStaged (group_number rules.geometry) (stages_in rules)
staged rules = record {
  there = λ group packet outs.
      All-weaker (IsWithin (first_in rules group) (first_in rules group + cmus_in rules group)) (λ (call : Call). group_number rules.geometry call.array ≡ group)
      (λ call within. in_its_group rules group call.array within.least within.most)
      (group_calls rules group packet outs) (group_within rules group packet outs);
}

-- calls were made, and those of `n` groups from `group` on are what is left of those wanted
pub record Goes {P : Type 0} (stages : Stages P) (packet : P) (wanted : Contents → List Call) (n group : ℕ) (outs : List ℕ) (contents new_contents : Option Contents) (list new_list : Option (List Call)) : Type 0 where
  pub calls : List Call
  pub joined : Grows list calls new_list
  pub told : Told (λ old now. (now ≡ all_made old calls) × (calls ++ flow stages now packet n group outs ≡ wanted old)) contents new_contents

pub goes_first : {P : Type 0} (stages : Stages P) (packet : P) (n group : ℕ) (outs : List ℕ) (contents : Option Contents) (list : Option (List Call)) → Goes stages packet (λ c. flow stages c packet n group outs) n group outs contents contents list list
goes_first stages packet n group outs contents list = record {
  calls = [];
  joined = grows_none list list (stays_same list);
  told = told_weaker contents contents (λ x y p. (p, ap (λ c. flow stages c packet n group outs) p)) (stays_same contents);
}

pub goes_on : {P : Type 0} (group_of : ℕ → ℕ) (stages : Stages P) (packet : P) (wanted : Contents → List Call) (n m group : ℕ) (outs new_outs : List ℕ) (contents mid_contents new_contents : Option Contents) (list mid_list new_list : Option (List Call))
    → AreStaged group_of stages → n ≡ suc m
    → Goes stages packet wanted n group outs contents mid_contents list mid_list
    → Makes (stages group packet outs) outs new_outs mid_contents new_contents mid_list new_list
    → Goes stages packet wanted m (group + 1) new_outs contents new_contents list new_list
goes_on group_of stages packet wanted n m group outs new_outs contents mid_contents new_contents list mid_list new_list staged e goes makes =
    let here = stages group packet outs in
    record {
      calls = goes.calls ++ here;
      joined = grows_then list mid_list new_list goes.calls here goes.joined makes.joined;
      told = told_then contents mid_contents new_contents (λ x y z p q. (
        q.0 ∙ ap (λ c. all_made c here) p.0 ∙ sym (fold-append made x goes.calls here),
        append_assoc goes.calls here (flow stages z packet m (group + 1) new_outs)
            ∙ ap (λ calls. goes.calls ++ (here ++ calls))
            (ap₂ (λ c o. flow stages c packet m (group + 1) o) q.0 q.1
            ∙ flow_same (FromGroup group_of (group + 1)) stages (all_made y here) y packet m (group + 1) (handed y here outs) (staged_from group_of stages packet (group + 1) staged) (same_after group_of group here y (staged.there group packet outs)))
            ∙ ap (λ k. goes.calls ++ flow stages y packet k group outs) (sym e)
            ∙ p.1,
      )) goes.told makes.told;
    }

pub goes_last : {P : Type 0} (stages : Stages P) (packet : P) (wanted : Contents → List Call) (n group : ℕ) (outs : List ℕ) (contents new_contents : Option Contents) (list new_list : Option (List Call)) → n ≡ 0 → Goes stages packet wanted n group outs contents new_contents list new_list → MakesOver wanted contents new_contents list new_list
goes_last stages packet wanted n group outs contents new_contents list new_list e goes = record {
  calls = goes.calls;
  joined = goes.joined;
  told = told_weaker contents new_contents (λ x y p. (sym (append-nil goes.calls) ∙ ap (λ k. goes.calls ++ flow stages y packet k group outs) (sym e) ∙ p.1, p.0)) goes.told;
}

-- calls were made, and those of `left` are what is left of those wanted
pub record StillTo (wanted left : Contents → List Call) (contents new_contents : Option Contents) (list new_list : Option (List Call)) : Type 0 where
  pub calls : List Call
  pub joined : Grows list calls new_list
  pub told : Told (λ old now. (now ≡ all_made old calls) × (calls ++ left now ≡ wanted old)) contents new_contents

pub still_then : (wanted left one next : Contents → List Call) (contents mid_contents new_contents : Option Contents) (list mid_list new_list : Option (List Call))
    → ((c : Contents) → left c ≡ one c ++ next (all_made c (one c)))
    → StillTo wanted left contents mid_contents list mid_list → MakesOver one mid_contents new_contents mid_list new_list → StillTo wanted next contents new_contents list new_list
still_then wanted left one next contents mid_contents new_contents list mid_list new_list e s m = record {
  calls = s.calls ++ m.calls;
  joined = grows_then list mid_list new_list s.calls m.calls s.joined m.joined;
  told = told_then contents mid_contents new_contents (λ x y z p q. (
    q.1 ∙ ap (λ c. all_made c m.calls) p.0 ∙ sym (fold-append made x s.calls m.calls),
    append_assoc s.calls m.calls (next z)
        ∙ ap (λ calls. s.calls ++ calls) (ap₂ (λ calls c. calls ++ next c) q.0 (q.1 ∙ ap (all_made y) q.0) ∙ sym (e y))
        ∙ p.1,
  )) s.told m.told;
}

pub still_last : (wanted left : Contents → List Call) (contents new_contents : Option Contents) (list new_list : Option (List Call)) → ((c : Contents) → left c ≡ []) → StillTo wanted left contents new_contents list new_list → MakesOver wanted contents new_contents list new_list
still_last wanted left contents new_contents list new_list e s = record {
  calls = s.calls;
  joined = s.joined;
  told = told_weaker contents new_contents (λ x y p. (sym (append-nil s.calls) ∙ ap (λ calls. s.calls ++ calls) (sym (e y)) ∙ p.1, p.0)) s.told;
}
