-- Worked scripts.
use Rattle.std.specs.Prelude.{◌≡◌, ℕ, ◌*◌, true, false, List, [], ◌∷◌, ◌++◌, replicate, codes, Result, Err}
use Rattle.std.proofs.Common.{refl}
use Rattle.std.specs.Fmt.{digits}
use Rattle.std.specs.List.{join_with_byte}
use Rattle.texts.specs.Words.{words}
use Rattle.key_mask.specs.declared.fields.Field.TheVariants.{SrcIp, Proto, EtherType}
use Rattle.key_mask.specs.declared.items.FieldKind.TheVariants.{BadValue}
use Rattle.key_mask.specs.Items.{field_named, items_text}
use Rattle.key_mask.specs.Keys.{key_in, with_item}
use Rattle.key_mask.specs.Numbers.{number_in, hex_in}
use Rattle.key_mask.specs.Masks.{lengths_of}
use Rattle.key_mask.specs.Spellings.{has_no_leading_zero, hex_text}
use Rattle.key_mask.specs.Vectors.{value_at}
use Rattle.pkt_headers.specs.declared.packets.Attr.TheVariants as attrs
use Rattle.sketch_defs.specs.declared.kinds.Kind.TheVariants as kinds
use Rattle.task_filters.specs.Terms.{terms_in, with_term}
use Rattle.task_filters.specs.Printing.{filter_text}
use Rattle.task_lang.specs.declared.commands.Command.{Command}
use Rattle.task_lang.specs.declared.commands.Command.TheVariants as commands
use Rattle.task_lang.specs.declared.commands.LineFault.{LineFault}
use Rattle.task_lang.specs.declared.commands.LineFault.TheVariants as faults
use Rattle.task_lang.specs.declared.commands.ScriptFault.{ScriptFault}
use Rattle.task_lang.specs.Words.{verb_named, kind_named, attr_named, rows_in, attr_in, after_label}
use Rattle.task_lang.specs.Script.{add_in, alone_in, command_in, plain_line_in, script_in, script_limit}
use Rattle.task_lang.specs.Printing.{command_text}

abbrev refused : ℕ → LineFault → Result (List Command) ScriptFault
refused line kind = Err (record { line = line; kind = kind })

hot : List ℕ
hot = codes "add hot cms 1 key=src_ip attr=packets filter=all memory=32\n"

unknown_command : script_in (codes "add hot cms 1 key=src_ip attr=packets filter=all memory=32\nrun\nrum\n") ≡ refused 3 faults.Command
unfolding script_in plain_line_in command_in verb_named add_in alone_in kind_named rows_in attr_in attr_named after_label number_in key_in with_item field_named terms_in
unknown_command = refl

five_rows : script_in (codes "add hot cms 5 key=src_ip attr=packets filter=all memory=32") ≡ refused 1 faults.Rows
unfolding script_in plain_line_in command_in verb_named add_in kind_named rows_in after_label number_in
five_rows = refl

-- comments and empty lines are counted, and one CR at the end of a line is dropped
counted : script_in (codes "# \u{7f}\n \t\r\nrun\r\nrun\r\r\n") ≡ refused 4 faults.Byte
unfolding script_in plain_line_in command_in verb_named alone_in
counted = refl

wrong_value : script_in (codes "add  t cms 01 key=proto,src_ip/32 attr=ttl filter=ethertype:0X0800 memory=032")
    ≡ refused 1 (faults.Filter (record { kind = BadValue; place = 0 }))
unfolding script_in plain_line_in command_in verb_named add_in kind_named rows_in attr_in attr_named after_label number_in key_in with_item field_named terms_in with_term hex_in
wrong_value = refl

canonical : command_text (commands.Add (record {
  name = codes "t";
  kind = kinds.Cms;
  rows = 1;
  key = lengths_of ((SrcIp, 32) ∷ (Proto, 8) ∷ []);
  attr = attrs.Ttl;
  filter = record { value = replicate 14 0 ++ 8 ∷ replicate 33 0; mask = lengths_of ((EtherType, 16) ∷ []) };
  size = 32;
}))
    ≡ codes "add t cms 1 key=src_ip,proto attr=ttl filter=ethertype:0x0800 memory=32"
unfolding command_text items_text filter_text hex_text value_at digits
canonical = refl

-- what tells that a text is not canonical: blanks, and numbers with a zero in front
two_spaces : join_with_byte 32 (words (codes "read  hot")) ≡ codes "read hot"
two_spaces = refl

zero_in_front : has_no_leading_zero (codes "032") ≡ false
zero_in_front = refl

zero_alone : has_no_leading_zero (codes "0") ≡ true
zero_alone = refl

-- a script of this many bytes is not too long
limit : script_limit ≡ 1024 * 1024
limit = refl
