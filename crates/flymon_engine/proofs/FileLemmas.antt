-- What is known of a name's text, through later calls on files.
use Rattle.std.proofs.Common.{◌≡◌, ◌+◌, ◌<◌, ◌≤◌, ℕ, Bool, true, false, cond, List, length, take, Option, None, Some, IfSome, Ok, Err, refl, sym, ap, ◌∙◌, subst, arith, ⊎_elim}
use Rattle.std.specs.Prelude.{◌&&◌, is_none, nat_lt, MatchBool}
use Rattle.std.specs.List.{list_any}
use Rattle.std.specs.Str.{bytes_eq}
use Rattle.std.proofs.lemmas.List.{take_all, length-take}
use Rattle.std.proofs.lemmas.Bool.{cases_lt}
use Rattle.std.proofs.lemmas.Bool.Decides.{nat_tests}
use Rattle.outside.specs.Told.{Told, Stays}
use Rattle.fm_io.specs.Slots.{Cursor, Slot, Slots, SlotMoves, SlotStays, Begins}
use Rattle.fm_io.specs.Names.{Directory, DirectoryStays, told_text}
use Rattle.sw_profile.specs.declared.profiles.Profile.{Profile}
use Rattle.sw_profile.specs.declared.faults.ProfileFault.TheVariants as faults
use Rattle.sw_profile.specs.Profiles.{profile_in, table_in, standard_profile}
use Rattle.task_lang.specs.declared.commands.Command.{Command}
use Rattle.task_lang.specs.declared.commands.LineFault.TheVariants.{TooLong}
use Rattle.task_lang.specs.Script.{script_in}
use Rattle.outside.specs.Faults.{Rose}
use Rattle.std.specs.Result.{IsErr}
use Rattle.fm_io.specs.declared.traits.Failed.{Failed}
use Rattle.fm_io.specs.Slots.{OthersStay}
use Rattle.fm_io.specs.Names.{CountsStray}
use Rattle.capture_read.specs.declared.records.Order.{Order}
use Rattle.capture_read.specs.declared.records.CaptureFault.{CaptureFault}
use Rattle.capture_read.specs.declared.records.CaptureFault.TheVariants.{ShortHeader, BadMagic, BadLink, ShortRecord, BigRecord, Read}
use Rattle.capture_read.specs.declared.reader.BeginFail.TheVariants.{Fault}
use Rattle.capture_read.specs.Records.{header_in}
use Rattle.capture_read.specs.Reading.{Reading, first_reading, records_in, records_behind}
use Rattle.capture_read.specs.Steps as steps
use Rattle.capture_read.specs.Steps.{MovesOn, last_begun}
use Rattle.flymon_engine.specs.Arrivals.{Left, left_in, left_of, left_by}
use Rattle.flymon_engine.specs.Opening.{is_standard, IsThere, Reads, GivesProfile, HasProfile, IsValid, Opens, StopsFiles, HasInputCause, StraysStay, KeepsNames, header_refusal}

text_by : (a b : Bool) (t u : Option Cursor) (x y : Option (List ℕ)) → b ≡ a → Told (λ _ _. Unit {0}) t u → Stays x y
    → Stays (cond (a && is_none t) None x) (cond (b && is_none u) None y)
text_by a true t None x y e told same = tt
text_by a true None (Some u) x y e told same = absurd told
text_by true true (Some t) (Some u) x y e told same = same
text_by false true (Some t) (Some u) x y e told same = absurd (let bad : true ≡ false = e in cc)
text_by true false t u x y e told same = absurd (let bad : false ≡ true = e in cc)
text_by false false t u x y e told same = same

text_stays : (R : Cursor → Cursor → Type 0) (d0 d1 : Directory) (a b : Slot) (name : List ℕ) → DirectoryStays d0 d1 → SlotMoves R a b
    → Stays (told_text d0 a name) (told_text d1 b name)
text_stays R d0 d1 a b name directory slot = text_by a.attached b.attached a.cursor b.cursor (d0.text name) (d1.text name) slot.attached (weaker a.cursor b.cursor slot.cursor) (directory.text name)
  where
    weaker : (t u : Option Cursor) → Told R t u → Told (λ _ _. Unit {0}) t u
    weaker t None r = tt
    weaker None (Some u) r = absurd r
    weaker (Some t) (Some u) r = tt

found_later : (P : List ℕ → Type 0) (x y : Option (List ℕ)) → Stays x y → IfSome x P → IfSome y P
found_later P x None same h = tt
found_later P None (Some y) same h = absurd same
found_later P (Some x) (Some y) same h = subst P (sym same) h

pub there_later : (name : List ℕ) (d0 d1 : Directory) → DirectoryStays d0 d1 → IsThere name d0 → IsThere name d1
there_later name d0 d1 directory there = by d0.names d1.names directory.names there
  where
    by : (x y : Option (List (List ℕ))) → Stays x y → IfSome x (λ there. list_any (bytes_eq name) there ≡ true) → IfSome y (λ there. list_any (bytes_eq name) there ≡ true)
    by x None same h = tt
    by None (Some y) same h = absurd same
    by (Some x) (Some y) same h = subst (λ l. list_any (bytes_eq name) l ≡ true) (sym same) h

-- what was read of a name still is so
pub reads_later : (R : Cursor → Cursor → Type 0) (P : List ℕ → Type 0) (name : List ℕ) (d0 d1 : Directory) (a b : Slot) → DirectoryStays d0 d1 → SlotMoves R a b
    → Reads name d0 a P → Reads name d1 b P
reads_later R P name d0 d1 a b directory slot reads = record {
  there = there_later name d0 d1 directory reads.there;
  text = found_later P (told_text d0 a name) (told_text d1 b name) (text_stays R d0 d1 a b name directory slot) reads.text;
}

pub profile_later : (name : List ℕ) (d0 d1 : Directory) (s0 s1 : Slots) (profile : Profile) → DirectoryStays d0 d1 → SlotStays s0.profile s1.profile
    → GivesProfile name d0 s0 profile → GivesProfile name d1 s1 profile
profile_later name d0 d1 s0 s1 profile directory slot gives = by (is_standard name) gives
  where
    by : (b : Bool) → MatchBool b (profile ≡ standard_profile) (Reads name d0 s0.profile (λ text. profile_in text ≡ Ok profile))
        → MatchBool b (profile ≡ standard_profile) (Reads name d1 s1.profile (λ text. profile_in text ≡ Ok profile))
    by true g = g
    by false g = reads_later (λ old new. new ≡ old) (λ text. profile_in text ≡ Ok profile) name d0 d1 s0.profile s1.profile directory slot g

pub has_later : (name : List ℕ) (d0 d1 : Directory) (s0 s1 : Slots) → DirectoryStays d0 d1 → SlotStays s0.profile s1.profile
    → HasProfile name d0 s0 → HasProfile name d1 s1
has_later name d0 d1 s0 s1 directory slot has = (has.0, profile_later name d0 d1 s0 s1 has.0 directory slot has.1)

pub valid_later : (profile script : List ℕ) (d0 d1 : Directory) (s0 s1 : Slots) → DirectoryStays d0 d1 → SlotStays s0.profile s1.profile → SlotStays s0.script s1.script
    → IsValid profile script d0 s0 → IsValid profile script d1 s1
valid_later profile script d0 d1 s0 s1 directory first second valid = record {
  profile = has_later profile d0 d1 s0 s1 directory first valid.profile;
  commands = valid.commands;
  script_text = reads_later (λ old new. new ≡ old) (λ text. script_in text ≡ Ok valid.commands) script d0 d1 s0.script s1.script directory second valid.script_text;
}

-- a profile that was read
pub profile_read : (name : List ℕ) (directory : Directory) (slots : Slots) (profile : Profile) → is_standard name ≡ false
    → Reads name directory slots.profile (λ text. profile_in text ≡ Ok profile) → GivesProfile name directory slots profile
profile_read name directory slots profile e reads =
    let P : Bool → Type 0 = λ b. MatchBool b (profile ≡ standard_profile) (Reads name directory slots.profile (λ text. profile_in text ≡ Ok profile)) in
    subst P (sym e) reads

-- ---- a text that was read up to one byte more than its limit is judged as the whole

judged_front : {A : Type 0} (judge : List ℕ → A) (limit : ℕ) (long : A) → ((text : List ℕ) → limit < length text → judge text ≡ long)
    → (bytes : List ℕ) → judge (take (limit + 1) bytes) ≡ judge bytes
judged_front judge limit long is bytes =
    ⊎_elim
    (λ (exceeds : limit < length bytes).
    let front : limit < length (take (limit + 1) bytes) = omega (arith, length-take (limit + 1) bytes) in
    is (take (limit + 1) bytes) front ∙ sym (is bytes exceeds))
    (λ (short : length bytes ≤ limit).
    let fits : length bytes ≤ limit + 1 = omega arith in ap judge (take_all (limit + 1) bytes fits))
    (cases_lt limit (length bytes))

judged_told : {A : Type 0} (judge : List ℕ → A) (limit : ℕ) (long said : A) → ((text : List ℕ) → limit < length text → judge text ≡ long)
    → (name items : List ℕ) (directory : Directory) (slot : Slot)
    → Reads name directory slot (λ bytes. items ≡ take (limit + 1) bytes) → judge items ≡ said → Reads name directory slot (λ bytes. judge bytes ≡ said)
judged_told judge limit long said is name items directory slot reads says = record { there = reads.there; text = by (told_text directory slot name) reads.text }
  where
    by : (told : Option (List ℕ)) → IfSome told (λ bytes. items ≡ take (limit + 1) bytes) → IfSome told (λ bytes. judge bytes ≡ said)
    by None h = tt
    by (Some bytes) h = sym (judged_front judge limit long is bytes) ∙ (ap judge (sym h) ∙ says)

script_long : (text : List ℕ) → 1048576 < length text → script_in text ≡ Err (record { line = 0; kind = TooLong })
unfolding script_in
script_long text long = let exceeds : nat_lt 1048576 (length text) ≡ true = grind (arith, nat_tests) in rw exceeds refl

pub script_told : (said : _) (name items : List ℕ) (directory : Directory) (slot : Slot)
    → Reads name directory slot (λ bytes. items ≡ take (1048576 + 1) bytes) → script_in items ≡ said → Reads name directory slot (λ bytes. script_in bytes ≡ said)
script_told said name items directory slot reads says = judged_told script_in 1048576 (Err (record { line = 0; kind = TooLong })) said script_long name items directory slot reads says

profile_long : (text : List ℕ) → 65536 < length text → profile_in text ≡ Err faults.TooLong
unfolding profile_in table_in
profile_long text long = let exceeds : nat_lt 65536 (length text) ≡ true = grind (arith, nat_tests) in rw exceeds refl

pub profile_told : (said : _) (name items : List ℕ) (directory : Directory) (slot : Slot)
    → Reads name directory slot (λ bytes. items ≡ take (65536 + 1) bytes) → profile_in items ≡ said → Reads name directory slot (λ bytes. profile_in bytes ≡ said)
profile_told said name items directory slot reads says = judged_told profile_in 65536 (Err faults.TooLong) said profile_long name items directory slot reads says

-- ---- the capture's text, from the cursor that was attached

pub told_by : (R : Cursor → Cursor → Type 0) (P : List ℕ → Type 0) (name : List ℕ) (d0 d1 : Directory) (a b : Slot)
    → a.attached ≡ true → Begins (d0.text name) a.cursor → DirectoryStays d0 d1 → SlotMoves R a b
    → ((x y : Cursor) → R x y → P x.bytes) → IfSome (told_text d1 b name) P
told_by R P name d0 d1 a b attached begins directory slot holds =
    by b.attached b.cursor (slot.attached ∙ attached) (inner (d0.text name) (d1.text name) a.cursor b.cursor begins (directory.text name) slot.cursor)
  where
    by : (attached : Bool) (cursor : Option Cursor) → attached ≡ true → IfSome cursor (λ _. IfSome (d1.text name) P) → IfSome (cond (attached && is_none cursor) None (d1.text name)) P
    by true None e h = tt
    by true (Some c) e h = h
    by false cursor e h = cc

    inner : (x y : Option (List ℕ)) (t u : Option Cursor) → Begins x t → Stays x y → Told R t u → IfSome u (λ _. IfSome y P)
    inner x y t None begins same r = tt
    inner x y None (Some u) begins same r = absurd r
    inner x None (Some t) (Some u) begins same r = tt
    inner None (Some y) (Some t) (Some u) begins same r = absurd same
    inner (Some x) (Some y) (Some t) (Some u) begins same r = subst P (begins.1 ∙ sym same) (holds t u r)

header_left : (bytes : List ℕ) (order : Order) → header_in bytes ≡ Ok order → left_in bytes ≡ Ok (left_of (records_in bytes (first_reading order)))
header_left bytes order e = ap (λ h. left_by (records_behind bytes h)) e

pub header_read : (reading : Reading) (name : List ℕ) (d0 d1 : Directory) (a b : Slot)
    → a.attached ≡ true → Begins (d0.text name) a.cursor → DirectoryStays d0 d1 → SlotMoves (steps.Begins (Ok reading)) a b
    → IfSome (told_text d1 b name) (λ bytes. (left : Left) × (left_in bytes ≡ Ok left))
header_read reading name d0 d1 a b attached begins directory slot =
    told_by (steps.Begins (Ok reading)) (λ bytes. (left : Left) × (left_in bytes ≡ Ok left)) name d0 d1 a b attached begins directory slot
    (λ x y r. (left_of (records_in x.bytes (first_reading reading.order)), header_left x.bytes reading.order r.answers.0))

-- the header is at fault, or could not be read
header_at : (fault : CaptureFault) (bytes : List ℕ) → header_in bytes ≡ Err fault → left_in bytes ≡ Err fault
header_at fault bytes e = ap (λ h. left_by (records_behind bytes h)) e

at_fault : (fault : CaptureFault) (name : List ℕ) (d0 d1 : Directory) (a b : Slot) → a.attached ≡ true → Begins (d0.text name) a.cursor → DirectoryStays d0 d1
    → SlotMoves (steps.Begins (Err (Fault fault))) a b → ((x y : Cursor) → steps.Begins (Err (Fault fault)) x y → header_in x.bytes ≡ Err fault)
    → IsThere name d1 → Reads name d1 b (λ bytes. left_in bytes ≡ Err fault)
at_fault fault name d0 d1 a b attached begins directory slot holds there = record {
  there = there;
  text = told_by (steps.Begins (Err (Fault fault))) (λ bytes. left_in bytes ≡ Err fault) name d0 d1 a b attached begins directory slot
      (λ x y r. header_at fault x.bytes (holds x y r));
}

pub header_stops : (fault : CaptureFault) (profile script capture : List ℕ) (d0 d1 : Directory) (a : Slot) (s1 : Slots)
    → a.attached ≡ true → Begins (d0.text capture) a.cursor → DirectoryStays d0 d1 → SlotMoves (steps.Begins (Err (Fault fault))) a s1.capture
    → IsThere capture d1 → IsValid profile script d1 s1 → StopsFiles profile script capture d1 s1 (header_refusal fault)
header_stops Read profile script capture d0 d1 a s1 attached begins directory slot there valid = (valid, λ _. by a.cursor s1.capture.cursor slot.cursor)
  where
    by : (t u : Option Cursor) → Told (steps.Begins (Err (Fault Read))) t u → IfSome u (λ cursor. cursor.at ≤ 23)
    by t None r = tt
    by None (Some u) r = absurd r
    by (Some t) (Some u) r = omega (arith, r.answers)
header_stops ShortHeader profile script capture d0 d1 a s1 attached begins directory slot there valid =
    (valid, at_fault ShortHeader capture d0 d1 a s1.capture attached begins directory slot (λ x y r. r.answers) there)
header_stops BadMagic profile script capture d0 d1 a s1 attached begins directory slot there valid =
    (valid, at_fault BadMagic capture d0 d1 a s1.capture attached begins directory slot (λ x y r. r.answers) there)
header_stops (BadLink link) profile script capture d0 d1 a s1 attached begins directory slot there valid =
    (valid, at_fault (BadLink link) capture d0 d1 a s1.capture attached begins directory slot (λ x y r. r.answers) there)
header_stops (ShortRecord offset) profile script capture d0 d1 a s1 attached begins directory slot there valid =
    (valid, at_fault (ShortRecord offset) capture d0 d1 a s1.capture attached begins directory slot (λ x y r. r.answers) there)
header_stops (BigRecord offset size) profile script capture d0 d1 a s1 attached begins directory slot there valid =
    (valid, at_fault (BigRecord offset size) capture d0 d1 a s1.capture attached begins directory slot (λ x y r. r.answers) there)

pub header_cause : (fault : CaptureFault) (before mid now last0 last : ℕ) → before ≤ mid → (fault ≡ Read → Rose mid now)
    → last ≡ last_begun {T = Reading} last0 (Err (Fault fault)) → HasInputCause before now last (header_refusal fault)
header_cause Read before mid now last0 last later rose e = (let r : Rose mid now = rose refl in omega (arith, r), e)
header_cause ShortHeader before mid now last0 last later rose e = tt
header_cause BadMagic before mid now last0 last later rose e = tt
header_cause (BadLink link) before mid now last0 last later rose e = tt
header_cause (ShortRecord offset) before mid now last0 last later rose e = tt
header_cause (BigRecord offset size) before mid now last0 last later rose e = tt

-- a name that is attached is there, and no stray was counted
pub attached_there : {T : Type 0} (name : List ℕ) (d0 d1 : Directory) (x : T) (before now : ℕ) → DirectoryStays d0 d1 → CountsStray {T = T} {E = Failed} d0.names name (Ok x) before now
    → IsThere name d1 × StraysStay d1 before now
attached_there {T} name d0 d1 x before now directory counts = by d0.names d1.names directory.names counts
  where
    one : (there : List (List ℕ)) (test : Bool) → list_any (bytes_eq name) there ≡ test → MatchBool test (now ≡ before) (IsErr {T = T} {E = Failed} (Ok x) × Rose before now)
        → (list_any (bytes_eq name) there ≡ true) × (now ≡ before)
    one there true e h = (e, h)
    one there false e h = absurd (let bad = h.0 in cc)

    by : (x0 x1 : Option (List (List ℕ))) → Stays x0 x1 → CountsStray {T = T} {E = Failed} x0 name (Ok x) before now
        → IfSome x1 (λ there. list_any (bytes_eq name) there ≡ true) × IfSome x1 (λ there. now ≡ before)
    by x0 None same h = (tt, tt)
    by None (Some y) same h = absurd same
    by (Some u) (Some y) same h =
        let both = one u (list_any (bytes_eq name) u) refl h in
        (subst (λ l. list_any (bytes_eq name) l ≡ true) (sym same) both.0, both.1)

pub strays_later : (d0 d1 : Directory) (before mid now : ℕ) → DirectoryStays d0 d1 → StraysStay d0 before mid → now ≡ mid → StraysStay d1 before now
strays_later d0 d1 before mid now directory stays same = by d0.names d1.names directory.names stays
  where
    by : (x y : Option (List (List ℕ))) → Stays x y → IfSome x (λ there. mid ≡ before) → IfSome y (λ there. now ≡ before)
    by x None e h = tt
    by None (Some y) e h = absurd e
    by (Some x) (Some y) e h = same ∙ h

pub header_names : (fault : CaptureFault) (profile script capture : List ℕ) (directory : Directory) (before now : ℕ) → StraysStay directory before now
    → KeepsNames profile script capture directory before now (header_refusal fault)
header_names Read profile script capture directory before now stays = by directory.names stays
  where
    by : (x : Option (List (List ℕ))) → IfSome x (λ there. now ≡ before) → IfSome x (λ there. list_any (bytes_eq capture) there ≡ true → now ≡ before)
    by None h = tt
    by (Some x) h = λ _. h
header_names ShortHeader profile script capture directory before now stays = stays
header_names BadMagic profile script capture directory before now stays = stays
header_names (BadLink link) profile script capture directory before now stays = stays
header_names (ShortRecord offset) profile script capture directory before now stays = stays
header_names (BigRecord offset size) profile script capture directory before now stays = stays

-- ---- the three texts, once the commands were carried out

pub opens_later : (profile script capture : List ℕ) (d0 d1 : Directory) (s0 s1 : Slots) (setup : Profile) (commands : List Command)
    → DirectoryStays d0 d1 → OthersStay 2 s0 s1 → SlotMoves MovesOn s0.capture s1.capture
    → Opens profile script capture d0 s0 setup commands → Opens profile script capture d1 s1 setup commands
opens_later profile script capture d0 d1 s0 s1 setup commands directory others slot opens = record {
  profile_text = profile_later profile d0 d1 s0 s1 setup directory others.profile opens.profile_text;
  script_text = reads_later (λ old new. new ≡ old) (λ text. script_in text ≡ Ok commands) script d0 d1 s0.script s1.script directory others.script opens.script_text;
  header = reads_later MovesOn (λ bytes. (left : Left) × (left_in bytes ≡ Ok left)) capture d0 d1 s0.capture s1.capture directory slot opens.header;
}
