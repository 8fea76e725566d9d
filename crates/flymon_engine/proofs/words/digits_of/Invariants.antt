use Rattle.std.proofs.Common.{◌≡◌, ◌<◌, ◌^◌, drop}
use Rattle.key_mask.specs.Numbers.{digits_after}
use Rattle.flymon_engine.proofs.words.digits_of.Given as goal

abbrev pub invariant-digits : goal.invariant-digits
invariant-digits l = record {
  same : digits_after l.number (drop l.digit-index l.text) ≡ digits_after 0 l.text;
  small : l.number < 10 ^ l.digit-index;
}
