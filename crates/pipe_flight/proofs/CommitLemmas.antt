-- Packets that leave, and rules that change.
use Rattle.std.proofs.Common.{◌≡◌, ◌-◌, ◌≤◌, true, false, cond, List, [], ◌∷◌, ◌++◌, refl, ap, ap₂, sym, ◌∙◌, arith, map}
use Rattle.std.specs.List.{All}
use Rattle.std.proofs.lemmas.List.Elements.{All-head, All-tail}
use Rattle.reg_file.specs.Registers.{Contents}
use Rattle.reg_file.specs.Calls.{all_made}
use Rattle.pipe_core.specs.Flow.{Stages, flow}
use Rattle.pipe_flight.specs.Flights.{Flying, Versions, stages_of, rest_of, drained, drain, kept_now, committed}
use Rattle.pipe_flight.proofs.DrainLemmas.{drained_append, drain_first}

-- ---- a packet past the last group

pub rest_none : {P : Type 0} (rules : Versions P) (contents : Contents) (one : Flying P) → rules.count ≤ one.group → rest_of rules contents one ≡ []
rest_none rules contents one le = let none : rules.count - one.group ≡ 0 = omega arith in ap (λ n. flow (stages_of rules one) contents one.packet n one.group one.outs) none

-- it may leave
pub leave_drained : {P : Type 0} (rules : Versions P) (contents : Contents) (front : List (Flying P)) (one : Flying P) (back : List (Flying P)) → rules.count ≤ one.group → drained rules contents (front ++ one ∷ back) ≡ drained rules contents (front ++ back)
leave_drained rules contents front one back le =
    drained_append rules contents front (one ∷ back)
    ∙ ap (λ calls. drained rules contents front ++ (calls ++ drained rules (all_made (drain rules contents front) calls) back)) (rest_none rules (drain rules contents front) one le)
    ∙ sym (drained_append rules contents front back)

-- ---- the first packet passes to the end

-- its calls are the first of those to come, by definition; the drain stays
pub first_passes : {P : Type 0} (rules : Versions P) (contents : Contents) (one : Flying P) (others : List (Flying P)) → drain rules (all_made contents (rest_of rules contents one)) others ≡ drain rules contents (one ∷ others)
first_passes rules contents one others = sym (drain_first rules contents one others)

-- ---- a commit: the rules of now become the old ones

pub kept_rest : {P : Type 0} (rules : Versions P) (next : Stages P) (contents : Contents) (one : Flying P) → one.kept ≡ false → rest_of (committed rules next) contents (kept_now one) ≡ rest_of rules contents one
kept_rest rules next contents one e = ap (λ b. flow (cond b rules.old rules.now) contents one.packet (rules.count - one.group) one.group one.outs) (sym e)

-- where no old packet is left, whatever rules come next
pub commit_drained : {P : Type 0} (rules : Versions P) (next : Stages P) (contents : Contents) (flight : List (Flying P)) → All (λ (f : Flying P). f.kept ≡ false) flight → drained (committed rules next) contents (map kept_now flight) ≡ drained rules contents flight
commit_drained rules next contents [] h = refl
commit_drained rules next contents (one ∷ flight) h =
    let e = kept_rest rules next contents one (All-head (λ f. f.kept ≡ false) one flight h) in
    ap (λ calls. calls ++ drained (committed rules next) (all_made contents calls) (map kept_now flight)) e
    ∙ ap (λ calls. rest_of rules contents one ++ calls) (commit_drained rules next (all_made contents (rest_of rules contents one)) flight (All-tail (λ f. f.kept ≡ false) one flight h))

-- ---- old packets see the old rules alone

pub kept_drained : {P : Type 0} (one two : Versions P) (contents : Contents) (flight : List (Flying P)) → one.old ≡ two.old → one.count ≡ two.count → All (λ (f : Flying P). f.kept ≡ true) flight → drained one contents flight ≡ drained two contents flight
kept_drained one two contents [] o c h = refl
kept_drained {P} one two contents (f ∷ flight) o c h =
    let k = All-head (λ (f : Flying P). f.kept ≡ true) f flight h in
    let e : rest_of one contents f ≡ rest_of two contents f =
    ap (λ b. flow (cond b one.old one.now) contents f.packet (one.count - f.group) f.group f.outs) k
    ∙ ap₂ (λ s n. flow s contents f.packet (n - f.group) f.group f.outs) o c
    ∙ ap (λ b. flow (cond b two.old two.now) contents f.packet (two.count - f.group) f.group f.outs) (sym k) in
    ap (λ calls. calls ++ drained one (all_made contents calls) flight) e
    ∙ ap (λ calls. rest_of two contents f ++ calls) (kept_drained one two (all_made contents (rest_of two contents f)) flight o c (All-tail (λ (f : Flying P). f.kept ≡ true) f flight h))
