-- The words of a command: names, kinds, numbers and attributes.
use Rattle.std.specs.Prelude.{ℕ, if◌then◌else◌, List, [], ◌∷◌, length, take, drop, codes, Option, None, Some, option_and_then}
use Rattle.std.specs.List.{find}
use Rattle.std.specs.Str.{bytes_eq}
use Rattle.key_mask.specs.Numbers.{number_in}
use Rattle.pkt_headers.specs.declared.packets.Attr.{Attr}
use Rattle.pkt_headers.specs.declared.packets.Attr.TheVariants as attrs
use Rattle.sketch_defs.specs.declared.kinds.Kind.{Kind}
use Rattle.sketch_defs.specs.declared.kinds.Kind.TheVariants as kinds
use Rattle.sketch_defs.specs.Names.{is_name}
use Rattle.sketch_defs.specs.Tasks.{allows, allows_rows}
use Rattle.task_lang.specs.declared.commands.Verb.{Verb}
use Rattle.task_lang.specs.declared.commands.Verb.TheVariants as verbs

-- the first word of each command
abbrev pub verb_word : Verb → List ℕ
verb_word verbs.Add = codes "add"
verb_word verbs.Resize = codes "resize"
verb_word verbs.Remove = codes "remove"
verb_word verbs.Release = codes "release"
verb_word verbs.Packets = codes "packets"
verb_word verbs.Run = codes "run"
verb_word verbs.Read = codes "read"
verb_word verbs.Frozen = codes "frozen"
verb_word verbs.Query = codes "query"
verb_word verbs.Dist = codes "dist"
verb_word verbs.Card = codes "card"
verb_word verbs.Show = codes "show"
verb_word verbs.Stat = codes "stat"

-- how many bytes the longest of them has
abbrev pub longest_verb : ℕ
longest_verb = length (verb_word verbs.Packets)

abbrev pub all_verbs : List Verb
all_verbs =
    verbs.Add ∷ verbs.Resize ∷ verbs.Remove ∷ verbs.Release ∷ verbs.Packets ∷ verbs.Run ∷ verbs.Read
    ∷ verbs.Frozen ∷ verbs.Query ∷ verbs.Dist ∷ verbs.Card ∷ verbs.Show ∷ verbs.Stat ∷ []

-- the command that begins with this word
unfoldable pub verb_named : List ℕ → Option Verb
verb_named word = find (λ verb. bytes_eq word (verb_word verb)) all_verbs

-- the name of each kind
abbrev pub kind_word : Kind → List ℕ
kind_word kinds.Cms = codes "cms"
kind_word kinds.SumaxSum = codes "sumax_sum"
kind_word kinds.SumaxMax = codes "sumax_max"
kind_word kinds.Bloom = codes "bloom"
kind_word kinds.Mrac = codes "mrac"
kind_word kinds.Hll = codes "hll"
kind_word kinds.FlagOr = codes "flag_or"
kind_word kinds.FlagAnd = codes "flag_and"

-- how many bytes the longest of them has
abbrev pub longest_kind : ℕ
longest_kind = length (kind_word kinds.SumaxSum)

abbrev pub all_kinds : List Kind
all_kinds =
    kinds.Cms ∷ kinds.SumaxSum ∷ kinds.SumaxMax ∷ kinds.Bloom ∷ kinds.Mrac ∷ kinds.Hll
    ∷ kinds.FlagOr ∷ kinds.FlagAnd ∷ []

-- the kind of this name
unfoldable pub kind_named : List ℕ → Option Kind
kind_named word = find (λ kind. bytes_eq word (kind_word kind)) all_kinds

-- the name of each attribute
abbrev pub attr_word : Attr → List ℕ
attr_word attrs.Packets = codes "packets"
attr_word attrs.Bytes = codes "bytes"
attr_word attrs.Ttl = codes "ttl"
attr_word attrs.Flags = codes "flags"
attr_word attrs.Flow = codes "flow"

-- how many bytes the longest of them has
abbrev pub longest_attr : ℕ
longest_attr = length (attr_word attrs.Packets)

abbrev pub all_attrs : List Attr
all_attrs = attrs.Packets ∷ attrs.Bytes ∷ attrs.Ttl ∷ attrs.Flags ∷ attrs.Flow ∷ []

-- the attribute of this name
unfoldable pub attr_named : List ℕ → Option Attr
attr_named word = find (λ attr. bytes_eq word (attr_word attr)) all_attrs

-- how many digits a number of 32 bits has at most
abbrev pub longest_number : ℕ
longest_number = 10

-- one to ten digits of a number of 32 bits
abbrev pub full_number : List ℕ → Option ℕ
full_number word = number_in longest_number 4294967295 word

abbrev pub name_in : List ℕ → Option (List ℕ)
name_in word = if is_name word then Some word else None

-- the number of rows, where the kind allows it
abbrev pub rows_allowed : Kind → ℕ → Option ℕ
rows_allowed kind rows = if allows_rows kind rows then Some rows else None

unfoldable pub rows_in : Kind → List ℕ → Option ℕ
rows_in kind word = option_and_then (rows_allowed kind) (full_number word)

-- the attribute, where the kind allows it
abbrev pub attr_allowed : Kind → Attr → Option Attr
attr_allowed kind attr = if allows kind attr then Some attr else None

unfoldable pub attr_in : Kind → List ℕ → Option Attr
attr_in kind word = option_and_then (attr_allowed kind) (attr_named word)

-- what stands behind the label, where the word has it
unfoldable pub after_label : List ℕ → List ℕ → Option (List ℕ)
after_label label word =
    if bytes_eq (take (length label) word) label then Some (drop (length label) word) else None
