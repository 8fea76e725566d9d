-- The units that give the key of a new row, among those that sound tasks use.
use Rattle.std.proofs.Common.{inl, inr, ◌≡◌, ◌≢◌, ℕ, ◌<◌, ◌≤◌, true, false, List, [], ◌∷◌, length, get_or, refl, ap, sym, ◌∙◌, subst, arith}
use Rattle.std.specs.Prelude.{◌⊎◌, Option, None, Some, IfSome, IsSome, IsTrue, is_some}
use Rattle.std.specs.List.{All}
use Rattle.std.proofs.lemmas.Bool.{false≢true, cases_lt}
use Rattle.std.proofs.lemmas.List.{get_or_past}
use Rattle.std.proofs.lemmas.List.Elements.{All-nil, All-cons, All-weaker}
use Rattle.std.proofs.lemmas.List.Quantifiers.{position-Some}
use Rattle.addr_translate.specs.Geometry.{Geometry, group_in}
use Rattle.key_mask.specs.Masks.{no_lengths}
use Rattle.group_keys.specs.declared.uses.KeyUse.{KeyUse}
use Rattle.group_keys.specs.Units.{UsedUnit, AreSound, IsUsed, DifferInMask, unit_at, has_mask, units_in, masks_xor_to, xor_to, keys_for, is_free}
use Rattle.group_keys.proofs.UseLemmas.{of_found}
use Rattle.switch_model.specs.Sights.{GroupUse, group_uses, units_on}
use Rattle.switch_model.specs.Soundness.{GiveKey, AgreeOnUnits}
use Rattle.switch_model.specs.Changes.{mask_in, masks_for}
use Rattle.switch_model.proofs.ListLemmas.{Across, none_passes}
use Rattle.switch_model.proofs.IsolationLemmas.{same_bytes, bytes_same}
use Rattle.switch_model.proofs.SightLemmas.{HasMask, UseOf, masks_known, use_of, agree_turned, unit_seen, length_units}

-- ---- the units of a group

-- all uses: they agree, exist in their groups, and have masks that are not empty
pub record AreUses (geometry : Geometry) (uses : List GroupUse) : Type 0 where
  pub agree : Across AgreeOnUnits uses uses
  pub exist : All (λ (u : GroupUse). u.unit < (group_in geometry u.group).units) uses
  pub stand : All (λ (u : GroupUse). u.mask ≢ no_lengths) uses

-- what is known of a use that a unit has
abbrev pub KnownUse : List GroupUse → GroupUse → Type 0
KnownUse uses u = All (AgreeOnUnits u) uses × (u.mask ≢ no_lengths)

pub known_uses : (geometry : Geometry) (uses : List GroupUse) → AreUses geometry uses → All (KnownUse uses) uses
known_uses geometry uses are k d within = (are.agree k d within, are.stand k d within)

-- the unit's use, where it is in use
pub unit_use : (P : GroupUse → Type 0) (geometry : Geometry) (uses : List GroupUse) (group unit : ℕ) → All P uses
    → IfSome (unit_at (units_on geometry uses group) unit) (UseOf P group unit)
unit_use P geometry uses group unit all = by (cases_lt unit (group_in geometry group).units) where
  units : List (Option UsedUnit)
  units = units_on geometry uses group

  by : (unit < (group_in geometry group).units) ⊎ ((group_in geometry group).units ≤ unit) → IfSome (unit_at units unit) (UseOf P group unit)
  by (inl within) =
      subst (λ (o : Option UsedUnit). IfSome o (UseOf P group unit)) (sym (unit_seen (group_in geometry group).units (group_uses uses group) unit within))
      (use_of P uses group unit all)
  by (inr past) =
      subst (λ (o : Option UsedUnit). IfSome o (UseOf P group unit))
      (sym (get_or_past units unit None (omega (arith, length_units (group_in geometry group).units (group_uses uses group))))) tt

is_used : (uses : List GroupUse) (group unit : ℕ) (o : Option UsedUnit) → IfSome o (UseOf (KnownUse uses) group unit) → IfSome o IsUsed
is_used uses group unit None a = tt
is_used uses group unit (Some u) a =
    let of : UseOf (KnownUse uses) group unit u = a in
    record { some = of.some; stands = λ none. of.holds.1 (of.mask ∙ none) }

differ_by : (uses : List GroupUse) (group one two : ℕ) → one ≢ two → (first second : Option UsedUnit)
    → IfSome first (UseOf (KnownUse uses) group one) → ((P : GroupUse → Type 0) → All P uses → IfSome second (UseOf P group two)) → DifferInMask first second
differ_by uses group one two ne None second a b = tt
differ_by uses group one two ne (Some u) None a b = tt
differ_by uses group one two ne (Some u) (Some w) a b =
    let first : UseOf (KnownUse uses) group one u = a in
    let second : UseOf (AgreeOnUnits first.one) group two w = b (AgreeOnUnits first.one) first.holds.0 in
    λ same. second.holds.other (first.in_group ∙ sym second.in_group) (λ is. ne (sym first.is ∙ is ∙ second.is)) (first.mask ∙ same ∙ sym second.mask)

-- they are sound
pub units_sound : (geometry : Geometry) (uses : List GroupUse) (group : ℕ) → AreUses geometry uses → AreSound (units_on geometry uses group)
units_sound geometry uses group are = record {
  each = λ unit. is_used uses group unit (unit_at (units_on geometry uses group) unit)
      (unit_use (KnownUse uses) geometry uses group unit (known_uses geometry uses are));
  differ = λ one two ne. differ_by uses group one two ne (unit_at (units_on geometry uses group) one) (unit_at (units_on geometry uses group) two)
      (unit_use (KnownUse uses) geometry uses group one (known_uses geometry uses are)) (λ P all. unit_use P geometry uses group two all);
}

-- ---- the units that give a key

-- a unit that may serve a key: it exists, and where it is free none has the key
pub record IsFit (units : List (Option UsedUnit)) (key : List ℕ) (unit : ℕ) : Type 0 where
  pub exists : unit < length units
  pub fresh : unit_at units unit ≡ None → All (λ (u : Option UsedUnit). has_mask key u ≡ false) units

abbrev pub BothUsed : List (Option UsedUnit) → ℕ → ℕ → Type 0
BothUsed units one two = one ≢ two → IsSome (unit_at units one) × IsSome (unit_at units two)

pub record GiveIt (units : List (Option UsedUnit)) (key : List ℕ) (keys : KeyUse) : Type 0 where
  pub fit : All (IsFit units key) (units_in keys)
  pub used : Across (BothUsed units) (units_in keys) (units_in keys)
  pub gives : GiveKey (masks_for units key keys) key

one_across : (R : ℕ → ℕ → Type 0) (x : ℕ) → R x x → Across R (x ∷ []) (x ∷ [])
one_across R x r = All-cons (λ y. All (R y) (x ∷ [])) x [] (All-cons (R x) x [] r (All-nil (R x))) (All-nil (λ y. All (R y) (x ∷ [])))

two_across : (R : ℕ → ℕ → Type 0) (x y : ℕ) → R x x → R x y → R y x → R y y → Across R (x ∷ y ∷ []) (x ∷ y ∷ [])
two_across R x y a b c d =
    All-cons (λ z. All (R z) (x ∷ y ∷ [])) x (y ∷ []) (All-cons (R x) x (y ∷ []) a (All-cons (R x) y [] b (All-nil (R x))))
    (All-cons (λ z. All (R z) (x ∷ y ∷ [])) y [] (All-cons (R y) x (y ∷ []) c (All-cons (R y) y [] d (All-nil (R y)))) (All-nil (λ z. All (R z) (x ∷ y ∷ []))))

known_mask : (key : List ℕ) (unit : Option UsedUnit) → has_mask key unit ≡ true → mask_in key unit ≡ key
known_mask key None e = absurd (false≢true e)
known_mask key (Some used) e = same_bytes used.mask key e

known_not_free : (key : List ℕ) (unit : Option UsedUnit) → has_mask key unit ≡ true → unit ≡ None → ⊥
known_not_free key None e none = false≢true e
known_not_free key (Some used) e none = cc

free_mask : (key : List ℕ) (unit : Option UsedUnit) → is_free unit ≡ true → mask_in key unit ≡ key
free_mask key None e = refl
free_mask key (Some used) e = absurd (false≢true e)

xor_used : (key : List ℕ) (one two : Option UsedUnit) → xor_to key one two ≡ true
    → (IsSome one × IsSome two) × IsTrue (masks_xor_to key (mask_in key one) (mask_in key two))
xor_used key None two e = absurd (false≢true e)
xor_used key (Some one) None e = absurd (false≢true e)
xor_used key (Some one) (Some two) e = ((refl, refl), e)

some_not_none : (unit : Option UsedUnit) → IsSome unit → unit ≡ None → ⊥
some_not_none None some none = cc
some_not_none (Some used) some none = cc

pub keys_give : (units : List (Option UsedUnit)) (key : List ℕ) (keys : KeyUse) → keys_for units key ≡ Some keys → GiveIt units key keys
keys_give units key keys found = of_found (GiveIt units key) units key keys found (record {
  known = λ unit is.
      let at = position-Some (has_mask key) units unit None is in
      record {
        fit = All-cons (IsFit units key) unit [] (record { exists = at.0; fresh = λ none. absurd (known_not_free key (unit_at units unit) at.1 none) })
            (All-nil (IsFit units key));
        used = one_across (BothUsed units) unit (λ ne. absurd (ne refl));
        gives = known_mask key (unit_at units unit) at.1;
      };
  pair = λ one two order within passes.
      let xors = xor_used key (unit_at units one) (unit_at units two) passes in
      record {
        fit = All-cons (IsFit units key) one (two ∷ [])
            (record { exists = omega arith; fresh = λ none. absurd (some_not_none (unit_at units one) xors.0.0 none) })
            (All-cons (IsFit units key) two [] (record { exists = within; fresh = λ none. absurd (some_not_none (unit_at units two) xors.0.1 none) })
            (All-nil (IsFit units key)));
        used = two_across (BothUsed units) one two (λ ne. absurd (ne refl)) (λ ne. xors.0) (λ ne. (xors.0.1, xors.0.0)) (λ ne. absurd (ne refl));
        gives = xors.1;
      };
  fresh = λ unit none is.
      let at = position-Some is_free units unit None is in
      record {
        fit = All-cons (IsFit units key) unit []
            (record { exists = at.0; fresh = λ free. none_passes (has_mask key) units (ap (λ (o : Option ℕ). is_some o) none) }) (All-nil (IsFit units key));
        used = one_across (BothUsed units) unit (λ ne. absurd (ne refl));
        gives = free_mask key (unit_at units unit) at.1;
      };
})

-- ---- the uses of a new row

abbrev pub new_use : List (Option UsedUnit) → List ℕ → ℕ → ℕ → GroupUse
new_use units key group unit = record { group = group; unit = unit; mask = mask_in key (unit_at units unit) }

-- of a unit in use it is the use that is there
used_is : (units : List (Option UsedUnit)) (key : List ℕ) (group unit : ℕ) (o : Option UsedUnit) (P : GroupUse → Type 0) → unit_at units unit ≡ o → IsSome o
    → IfSome o (UseOf P group unit) → P (new_use units key group unit)
used_is units key group unit None P e some of = cc
used_is units key group unit (Some used) P e some of =
    let u : UseOf P group unit used = of in
    let mask : mask_in key (unit_at units unit) ≡ u.one.mask = ap (mask_in key) e ∙ sym u.mask in
    let group_ : group ≡ u.one.group = sym u.in_group in
    let unit_ : unit ≡ u.one.unit = sym u.is in
    let same : new_use units key group unit ≡ u.one =
    ap (λ g. (let n : GroupUse = record { group = g; unit = unit; mask = mask_in key (unit_at units unit) } in n)) group_
    ∙ ap (λ k. (let n : GroupUse = record { group = u.one.group; unit = k; mask = mask_in key (unit_at units unit) } in n)) unit_
    ∙ ap (λ m. (let n : GroupUse = record { group = u.one.group; unit = u.one.unit; mask = m } in n)) mask in
    subst P (sym same) u.holds

not_key : (key mask : List ℕ) (o : Option UsedUnit) → has_mask key o ≡ false → HasMask o mask → mask ≢ key
not_key key mask None e has = absurd has
not_key key mask (Some used) e has = λ same. false≢true (sym e ∙ bytes_same used.mask key (has ∙ same))

no_mask : (mask : List ℕ) (o : Option UsedUnit) → o ≡ None → HasMask o mask → ⊥
no_mask mask None e has = has
no_mask mask (Some used) e has = cc

-- it agrees with all uses
pub new_agrees : (geometry : Geometry) (uses : List GroupUse) (group unit : ℕ) (key : List ℕ) → AreUses geometry uses
    → IsFit (units_on geometry uses group) key unit
    → All (λ v. AgreeOnUnits v (new_use (units_on geometry uses group) key group unit)) uses
new_agrees geometry uses group unit key are fit = by (unit_at units unit) refl where
  units : List (Option UsedUnit)
  units = units_on geometry uses group

  count : ℕ
  count = (group_in geometry group).units

  long : length units ≡ count
  long = length_units count (group_uses uses group)

  known : (k : ℕ) → k < count → All (λ (v : GroupUse). v.group ≡ group → v.unit ≡ k → HasMask (unit_at units k) v.mask) uses
  known k within =
      subst (λ (o : Option UsedUnit). All (λ (v : GroupUse). v.group ≡ group → v.unit ≡ k → HasMask o v.mask) uses)
      (sym (unit_seen count (group_uses uses group) k within)) (masks_known uses group k are.agree)

  by : (o : Option UsedUnit) → unit_at units unit ≡ o → All (λ v. AgreeOnUnits v (new_use units key group unit)) uses
  by (Some used) e =
      let agrees : KnownUse uses (new_use units key group unit) =
      used_is units key group unit (Some used) (KnownUse uses) e refl
      (subst (λ (o : Option UsedUnit). IfSome o (UseOf (KnownUse uses) group unit)) e
      (unit_use (KnownUse uses) geometry uses group unit (known_uses geometry uses are))) in
      All-weaker (AgreeOnUnits (new_use units key group unit)) (λ v. AgreeOnUnits v (new_use units key group unit))
      (λ v a. agree_turned (new_use units key group unit) v a) uses agrees.0
  by None e = λ i d within.
      let v : GroupUse = get_or uses i d in
      record {
        same = λ on is. absurd (no_mask v.mask (unit_at units unit) e (known unit (omega (arith, fit.exists, long)) i d within on is));
        other = λ on ne same.
            let exists : v.unit < count = subst (λ (g : ℕ). v.unit < (group_in geometry g).units) on (are.exist i d within) in
            not_key key v.mask (unit_at units v.unit) (fit.fresh e v.unit None (omega (arith, exists, long))) (known v.unit exists i d within on refl)
            (same ∙ ap (mask_in key) e);
      }

-- and with the other uses for the same key in the group
pub both_agree : (geometry : Geometry) (uses : List GroupUse) (group one two : ℕ) (key : List ℕ) → AreUses geometry uses
    → BothUsed (units_on geometry uses group) one two
    → AgreeOnUnits (new_use (units_on geometry uses group) key group one) (new_use (units_on geometry uses group) key group two)
both_agree geometry uses group one two key are used = record {
  same = λ on is. ap (λ k. mask_in key (unit_at (units_on geometry uses group) k)) is;
  other = λ on ne.
      let both = used ne in
      let units : List (Option UsedUnit) = units_on geometry uses group in
      let first : KnownUse uses (new_use units key group one) =
      used_is units key group one (unit_at units one) (KnownUse uses) refl both.0 (unit_use (KnownUse uses) geometry uses group one (known_uses geometry uses are)) in
      let agree : AgreeOnUnits (new_use units key group one) (new_use units key group two) =
      used_is units key group two (unit_at units two) (AgreeOnUnits (new_use units key group one)) refl both.1
      (unit_use (AgreeOnUnits (new_use units key group one)) geometry uses group two first.0) in
      agree.other refl ne;
}

-- its masks are not empty
pub masks_stand : (geometry : Geometry) (uses : List GroupUse) (group unit : ℕ) (key : List ℕ) → AreUses geometry uses → key ≢ no_lengths
    → mask_in key (unit_at (units_on geometry uses group) unit) ≢ no_lengths
masks_stand geometry uses group unit key are some =
    by (unit_at (units_on geometry uses group) unit) (let sound : AreSound (units_on geometry uses group) = units_sound geometry uses group are in sound.each unit) where
      by : (o : Option UsedUnit) → IfSome o IsUsed → mask_in key o ≢ no_lengths
      by None used = some
      by (Some unit) used = let h : IsUsed unit = used in h.stands
