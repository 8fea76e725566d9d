-- The law of equal groups: what a table without a fault says, and the same said in groups.
use Rattle.std.proofs.Common.{◌≡◌, ℕ, ◌≤◌, ◌&&◌, true, false, replicate, Bool, Option, None, Some, Ok, ℤ, pos, negsuc, le-leb, refl, ap, ◌∙◌, arith}
use Rattle.std.specs.Prelude.{nat_le, if◌then◌else◌, is_some}
use Rattle.std.specs.Option.{option_or, option_map_or}
use Rattle.std.proofs.lemmas.Bool.{and_parts, leb-true}
use Rattle.toml.specs.Data.{Data, integer, array, Items, no_items, item, Members, as_integer, as_table}
use Rattle.addr_translate.specs.Geometry.{no_group}
use Rattle.sw_profile.specs.declared.profiles.Profile.{Profile}
use Rattle.sw_profile.specs.declared.faults.ProfileKey.{ProfileKey}
use Rattle.sw_profile.specs.declared.faults.ProfileKey.TheVariants as keys
use Rattle.sw_profile.specs.declared.faults.ProfileFault.{ProfileFault}
use Rattle.sw_profile.specs.declared.faults.ProfileFault.TheVariants as faults
use Rattle.sw_profile.specs.Keys.{member_at, first_fault, needed, number_fault, number, hash_digits, group_keys, table_fault, are_tables, item_count, each_fault, items_fault, group_tables, equal_keys, grouped_keys}
use Rattle.sw_profile.specs.Profiles.{natural, number_at, hash_key_at, group_at, each_group, groups_at, equal_profile, grouped_profile, fault_of, said_by, judged, profile_of}
use Rattle.sw_profile.specs.Laws.{Agree, IsGroupOf, IsTableOf, AreTablesOf, EqualGroupsStay}

or_none : (one two : Option ProfileFault) → option_or one two ≡ None → (one ≡ None) × (two ≡ None)
or_none None two h = (refl, h)
or_none (Some fault) two h = let wrong : ⊥ = cc in absurd wrong

judged_none : (fault : Option ProfileFault) (said profile : Profile) → judged fault said ≡ Ok profile → (fault ≡ None) × (said ≡ profile)
judged_none None said profile h = (refl, cc)
judged_none (Some fault) said profile h = let wrong : ⊥ = cc in absurd wrong

-- ---- one number

-- it stands between its limits
record IsBetween (least most n : ℕ) : Type 0 where
  low : least ≤ n
  high : n ≤ most

unless_true : (test : Bool) (fault : ProfileFault) → (if test then None else Some fault) ≡ None → test ≡ true
unless_true true fault h = refl
unless_true false fault h = let wrong : ⊥ = cc in absurd wrong

within_limits : (key : ProfileKey) (least most : ℕ) (o : Option ℤ) → number_fault key least most o ≡ None → IsBetween least most (natural o)
within_limits key least most (Some (pos n)) h =
    let test = unless_true (nat_le least n && nat_le n most) (faults.OutOfRange key) h in
    let (low, high) = and_parts (nat_le least n) (nat_le n most) test in
    record { low = leb-true least n low; high = leb-true n most high }
within_limits key least most (Some (negsuc n)) h = let wrong : ⊥ = cc in absurd wrong
within_limits key least most None h = let wrong : ⊥ = cc in absurd wrong

found_limits : (key : ProfileKey) (least most : ℕ) (o : Option Data) → needed key (λ found. number_fault key least most (as_integer found)) o ≡ None
    → IsBetween least most (option_map_or (λ found. natural (as_integer found)) o 0)
found_limits key least most (Some found) h = within_limits key least most (as_integer found) h
found_limits key least most None h = let wrong : ⊥ = cc in absurd wrong

-- a number without a fault is within its limits
limits : (key : ProfileKey) (least most : ℕ) (entries : Members) → number key least most entries ≡ None → IsBetween least most (number_at key entries)
unfolding number number_at
limits key least most entries h = found_limits key least most (member_at key entries) h

wider_fault : (key : ProfileKey) (least most more : ℕ) (o : Option ℤ) → most ≤ more → number_fault key least most o ≡ None → number_fault key least more o ≡ None
wider_fault key least most more (Some (pos n)) up h =
    let here = within_limits key least most (Some (pos n)) h in
    rw (le-leb least n here.low, le-leb n more (omega (arith, here.high, up))) refl
wider_fault key least most more (Some (negsuc n)) up h = let wrong : ⊥ = cc in absurd wrong
wider_fault key least most more None up h = let wrong : ⊥ = cc in absurd wrong

wider_found : (key : ProfileKey) (least most more : ℕ) (o : Option Data) → most ≤ more
    → needed key (λ found. number_fault key least most (as_integer found)) o ≡ None
    → needed key (λ found. number_fault key least more (as_integer found)) o ≡ None
wider_found key least most more (Some found) up h = wider_fault key least most more (as_integer found) up h
wider_found key least most more None up h = let wrong : ⊥ = cc in absurd wrong

-- a number without a fault has none where more is allowed
wider : (key : ProfileKey) (least most more : ℕ) (entries : Members) → most ≤ more → number key least most entries ≡ None → number key least more entries ≡ None
unfolding number
wider key least most more entries up h = wider_found key least most more (member_at key entries) up h

-- the same stands at a key of two tables
same_fault : (key : ProfileKey) (least most : ℕ) (one two : Members) → Agree key one two → number key least most one ≡ number key least most two
unfolding number
same_fault key least most one two same = rw same refl

same_number : (key : ProfileKey) (one two : Members) → Agree key one two → number_at key one ≡ number_at key two
unfolding number_at
same_number key one two same = rw same refl

-- an integer that is written there
written : (key : ProfileKey) (n : ℕ) (entries : Members) → member_at key entries ≡ Some (integer (pos n)) → number_at key entries ≡ n
unfolding number_at
written key n entries is = rw is refl

written_fault : (key : ProfileKey) (least most n : ℕ) (entries : Members) → member_at key entries ≡ Some (integer (pos n)) → least ≤ n → n ≤ most → number key least most entries ≡ None
unfolding number
written_fault key least most n entries is low high = rw (is, le-leb least n low, le-leb n most high) refl

-- ---- the tables of groups

group_fault : (first own : Members) → IsGroupOf first own → first_fault (group_keys 16) first ≡ None → first_fault (group_keys 20) own ≡ None
group_fault first own same none =
    let (cmus, more) = or_none (number keys.Cmus 1 4 first) _ none in
    let (units, last) = or_none (number keys.Units 1 4 first) _ more in
    let (bits, end) = or_none (number keys.LogRegisters 5 16 first) _ last in
    rw (
      same_fault keys.Cmus 1 4 own first same.cmus ∙ cmus,
      same_fault keys.Units 1 4 own first same.units ∙ units,
      same_fault keys.LogRegisters 5 20 own first same.bits ∙ wider keys.LogRegisters 5 16 20 first (omega arith) bits,
    ) refl

same_group : (first own : Members) → IsGroupOf first own → group_at own ≡ group_at first
same_group first own same = rw (same_number keys.Cmus own first same.cmus, same_number keys.Units own first same.units, same_number keys.LogRegisters own first same.bits) refl

-- a table of a group: it is one, without a fault, and says the group
record IsTable (first : Members) (o : Option Members) : Type 0 where
  some : is_some o ≡ true
  none : table_fault o ≡ None
  group : option_map_or group_at o no_group ≡ group_at first

as_group : (first : Members) (o : Option Members) → IsTableOf first o → first_fault (group_keys 16) first ≡ None → IsTable first o
as_group first (Some own) same none = record { some = refl; none = group_fault first own same none; group = same_group first own same }
as_group first None same none = absurd same

-- all the tables of groups
record AreTables (first : Members) (items : Items) : Type 0 where
  some : are_tables items ≡ true
  none : each_fault items ≡ None
  groups : each_group items ≡ replicate (item_count items) (group_at first)

as_groups : (first : Members) (items : Items) → AreTablesOf first items → first_fault (group_keys 16) first ≡ None → AreTables first items
as_groups first no_items same none = record { some = refl; none = refl; groups = refl }
as_groups first (item d ds) same none =
    let here = as_group first (as_table d) same.0 none in
    let rest = as_groups first ds same.1 none in
    record {
      some = rw (here.some, rest.some) refl;
      none = rw (here.none, rest.none) refl;
      groups = rw (here.group, rest.groups) refl;
    }

items_none : (items : Items) → are_tables items ≡ true → 1 ≤ item_count items → item_count items ≤ 12 → each_fault items ≡ None → items_fault items ≡ None
items_none items some low high none = rw (some, le-leb 1 (item_count items) low, le-leb (item_count items) 12 high, none) refl

-- ---- both tables

tables_none : (second : Members) (items : Items) → member_at keys.Group second ≡ Some (array items) → items_fault items ≡ None → group_tables second ≡ None
unfolding group_tables
tables_none second items is none = rw (is, none) refl

tables_groups : (second : Members) (items : Items) → member_at keys.Group second ≡ Some (array items) → groups_at second ≡ each_group items
unfolding groups_at
tables_groups second items is = rw is refl

same_digits : (first second : Members) → Agree keys.HashKey second first → hash_digits second ≡ hash_digits first
unfolding hash_digits
same_digits first second same = rw same refl

same_key : (first second : Members) → Agree keys.HashKey second first → hash_key_at second ≡ hash_key_at first
unfolding hash_key_at
same_key first second same = rw same refl

first_says : (first : Members) (profile : Profile) → number_at keys.Version first ≡ 1 → profile_of first ≡ Ok profile
    → (first_fault equal_keys first ≡ None) × (equal_profile first ≡ profile)
unfolding profile_of
first_says first profile version h =
    let (none, said) = judged_none (fault_of first) (said_by first) profile h in
    let (own, rest) = or_none (number keys.Version 1 2 first) _ none in
    (rw version at rest, rw version at said)

second_says : (second : Members) → number keys.Version 1 2 second ≡ None → number_at keys.Version second ≡ 2 → first_fault grouped_keys second ≡ None
    → profile_of second ≡ Ok (grouped_profile second)
unfolding profile_of
second_says second own version none = rw (own, version, none) refl

pub equal_groups_stay : EqualGroupsStay
equal_groups_stay first second profile one same h =
    let (faultless, said) = first_says first profile (written keys.Version 1 first one) h in
    let (count, more) = or_none (number keys.Groups 1 12 first) _ faultless in
    let (cmus, behind) = or_none (number keys.Cmus 1 4 first) _ more in
    let (units, last) = or_none (number keys.Units 1 4 first) _ behind in
    let (bits, end) = or_none (number keys.LogRegisters 5 16 first) _ last in
    let (digits, none) = or_none (hash_digits first) _ end in
    let group : first_fault (group_keys 16) first ≡ None = rw (cmus, units, bits) refl in
    let tables = as_groups first same.items same.each group in
    let room = limits keys.Groups 1 12 first count in
    let items = items_none same.items tables.some (omega (arith, room.low, same.count)) (omega (arith, room.high, same.count)) tables.none in
    let faults_none : first_fault grouped_keys second ≡ None = rw (
      written_fault keys.LogBlocks 5 10 5 second same.split (omega arith) (omega arith),
      tables_none second same.items same.groups items,
      same_digits first second same.hash_key,
      digits,
    ) refl in
    let profiles : grouped_profile second ≡ equal_profile first = rw (
      tables_groups second same.items same.groups,
      tables.groups,
      same.count,
      written keys.LogBlocks 5 second same.split,
      same_key first second same.hash_key,
    ) refl in
    second_says second (written_fault keys.Version 1 2 2 second same.version (omega arith) (omega arith)) (written keys.Version 2 second same.version) faults_none
    ∙ ap Ok (profiles ∙ said)
