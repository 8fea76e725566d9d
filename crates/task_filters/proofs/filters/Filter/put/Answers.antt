use Rattle.std.proofs.Common.{◌≡◌, Ok, ◌++◌, ap, sym, ◌∙◌, codes, refl}
use Rattle.std.proofs.lemmas.Bool.{false≢true}
use Rattle.task_filters.specs.Filters.{Pattern}
use Rattle.task_filters.specs.Printing.{filter_text}
use Rattle.task_filters.specs.Terms.{filter_in, is_canonical_filter}
use Rattle.task_filters.proofs.AgainLemmas.{filter_again, text_empty, text_items}
use Rattle.task_filters.proofs.OnlyLemmas.{filter_canonical}
use Rattle.task_filters.proofs.filters.Filter.put.Goals as goal

pub returns-then-is_empty-clause-again : goal.returns-then-is_empty-clause-again
returns-then-is_empty-clause-again c =
    let pattern : Pattern = record { value = c.self.inside.value; mask = c.self.inside.mask } in
    let all : c.push_str.new.self.bytes ≡ filter_text pattern =
    c.push_str.ensures.bytes ∙ ap (λ line. line ++ codes "all") c.new-line.ensures ∙ sym (text_empty pattern (c.if-is_empty.ensures.exact.0 refl)) in
    ap filter_in all ∙ filter_again pattern c.self.invariant ∙ ap (λ p. Ok p) c.self.view_is

pub returns-then-is_empty-clause-canonical : goal.returns-then-is_empty-clause-canonical
returns-then-is_empty-clause-canonical c =
    let pattern : Pattern = record { value = c.self.inside.value; mask = c.self.inside.mask } in
    let all : c.push_str.new.self.bytes ≡ filter_text pattern =
    c.push_str.ensures.bytes ∙ ap (λ line. line ++ codes "all") c.new-line.ensures ∙ sym (text_empty pattern (c.if-is_empty.ensures.exact.0 refl)) in
    ap is_canonical_filter all ∙ filter_canonical pattern c.self.invariant

pub returns-clause-again : goal.returns-clause-again
returns-clause-again c =
    let pattern : Pattern = record { value = c.self.inside.value; mask = c.self.inside.mask } in
    let items : c.put_items.result.bytes ≡ filter_text pattern =
    c.put_items.ensures.text ∙ sym (text_items pattern (λ none. false≢true (c.if-is_empty.ensures.exact.1 none))) in
    ap filter_in items ∙ filter_again pattern c.self.invariant ∙ ap (λ p. Ok p) c.self.view_is

pub returns-clause-canonical : goal.returns-clause-canonical
returns-clause-canonical c =
    let pattern : Pattern = record { value = c.self.inside.value; mask = c.self.inside.mask } in
    let items : c.put_items.result.bytes ≡ filter_text pattern =
    c.put_items.ensures.text ∙ sym (text_items pattern (λ none. false≢true (c.if-is_empty.ensures.exact.1 none))) in
    ap is_canonical_filter items ∙ filter_canonical pattern c.self.invariant
