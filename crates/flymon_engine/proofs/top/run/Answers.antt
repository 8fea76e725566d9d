use Rattle.std.proofs.Common.{sym, ◌∙◌, subst}
use Rattle.flymon_engine.specs.declared.status.Status.{Status}
use Rattle.flymon_engine.specs.Words.{Form, form_of, texts_of}
use Rattle.flymon_engine.specs.Endings.{Promises, seen}
use Rattle.flymon_engine.specs.Clauses.{IsEarly, LeavesFiles}
use Rattle.flymon_engine.proofs.ClauseLemmas.{to_wrong, from_wrong, to_bad_profile, to_bad_script, to_damage, to_done, to_input, to_output, to_device, to_nothing, to_names, to_stray, to_demo}
use Rattle.flymon_engine.specs.Serial.{serial_rules, serial_lays}
use Rattle.flymon_engine.specs.Ways.{rules_by}
use Rattle.flymon_engine.proofs.top.run.Goals as goal

pub returns-clause-bad_profile : goal.returns-clause-bad_profile
returns-clause-bad_profile g c = let r = g.R.RegFile in let f = g.F.Files in let o = g.O.Sink in
    let before = seen f r o c.args.files.now c.args.regs.now c.args.out.now in
    let after = seen f r o c.execute-ended.new.files c.execute-ended.new.regs c.execute-ended.new.out in
    let form = form_of (texts_of c.args.words.now) in let rules = rules_by form in let ended = c.execute-ended.result in
    λ e. to_bad_profile rules serial_lays form before after ended (sym c.status_of.ensures ∙ e) c.execute-ended.ensures.promises

pub returns-clause-bad_script : goal.returns-clause-bad_script
returns-clause-bad_script g c = let r = g.R.RegFile in let f = g.F.Files in let o = g.O.Sink in
    let before = seen f r o c.args.files.now c.args.regs.now c.args.out.now in
    let after = seen f r o c.execute-ended.new.files c.execute-ended.new.regs c.execute-ended.new.out in
    let form = form_of (texts_of c.args.words.now) in let rules = rules_by form in let ended = c.execute-ended.result in
    λ e. to_bad_script rules serial_lays form before after ended (sym c.status_of.ensures ∙ e) c.execute-ended.ensures.promises

pub returns-clause-bad_capture : goal.returns-clause-bad_capture
returns-clause-bad_capture g c = let r = g.R.RegFile in let f = g.F.Files in let o = g.O.Sink in
    let before = seen f r o c.args.files.now c.args.regs.now c.args.out.now in
    let after = seen f r o c.execute-ended.new.files c.execute-ended.new.regs c.execute-ended.new.out in
    let form = form_of (texts_of c.args.words.now) in let rules = rules_by form in let ended = c.execute-ended.result in
    λ e. to_damage rules serial_lays form before after ended (sym c.status_of.ensures ∙ e) c.execute-ended.ensures.promises

pub returns-clause-done : goal.returns-clause-done
returns-clause-done g c = let r = g.R.RegFile in let f = g.F.Files in let o = g.O.Sink in
    let before = seen f r o c.args.files.now c.args.regs.now c.args.out.now in
    let after = seen f r o c.execute-ended.new.files c.execute-ended.new.regs c.execute-ended.new.out in
    let form = form_of (texts_of c.args.words.now) in let rules = rules_by form in let ended = c.execute-ended.result in
    λ e. to_done rules serial_lays form before after ended (sym c.status_of.ensures ∙ e) c.execute-ended.ensures.promises

pub returns-clause-input : goal.returns-clause-input
returns-clause-input g c = let r = g.R.RegFile in let f = g.F.Files in let o = g.O.Sink in
    let before = seen f r o c.args.files.now c.args.regs.now c.args.out.now in
    let after = seen f r o c.execute-ended.new.files c.execute-ended.new.regs c.execute-ended.new.out in
    let form = form_of (texts_of c.args.words.now) in let rules = rules_by form in let ended = c.execute-ended.result in
    λ e. to_input rules serial_lays form before after ended (sym c.status_of.ensures ∙ e) c.execute-ended.ensures.promises

pub returns-clause-output : goal.returns-clause-output
returns-clause-output g c = let r = g.R.RegFile in let f = g.F.Files in let o = g.O.Sink in
    let before = seen f r o c.args.files.now c.args.regs.now c.args.out.now in
    let after = seen f r o c.execute-ended.new.files c.execute-ended.new.regs c.execute-ended.new.out in
    let form = form_of (texts_of c.args.words.now) in let rules = rules_by form in let ended = c.execute-ended.result in
    λ e. to_output rules serial_lays form before after ended (sym c.status_of.ensures ∙ e) c.execute-ended.ensures.promises

pub returns-clause-device : goal.returns-clause-device
returns-clause-device g c = let r = g.R.RegFile in let f = g.F.Files in let o = g.O.Sink in
    let before = seen f r o c.args.files.now c.args.regs.now c.args.out.now in
    let after = seen f r o c.execute-ended.new.files c.execute-ended.new.regs c.execute-ended.new.out in
    let form = form_of (texts_of c.args.words.now) in let rules = rules_by form in let ended = c.execute-ended.result in
    λ e. to_device rules serial_lays form before after ended (sym c.status_of.ensures ∙ e) c.execute-ended.ensures.promises

pub returns-clause-stray : goal.returns-clause-stray
returns-clause-stray g c = let r = g.R.RegFile in let f = g.F.Files in let o = g.O.Sink in
    let before = seen f r o c.args.files.now c.args.regs.now c.args.out.now in
    let after = seen f r o c.execute-ended.new.files c.execute-ended.new.regs c.execute-ended.new.out in
    let form = form_of (texts_of c.args.words.now) in let rules = rules_by form in let ended = c.execute-ended.result in
    λ e. to_stray rules serial_lays form before after ended (sym c.status_of.ensures ∙ e) c.execute-ended.ensures.promises

pub returns-clause-usage : goal.returns-clause-usage
returns-clause-usage g c = let r = g.R.RegFile in let f = g.F.Files in let o = g.O.Sink in
    let before = seen f r o c.args.files.now c.args.regs.now c.args.out.now in
    let after = seen f r o c.execute-ended.new.files c.execute-ended.new.regs c.execute-ended.new.out in
    let form = form_of (texts_of c.args.words.now) in let rules = rules_by form in let ended = c.execute-ended.result in (
      λ e. to_wrong rules serial_lays form before after ended (sym c.status_of.ensures ∙ e) c.execute-ended.ensures.promises,
      λ e. c.status_of.ensures ∙ sym (from_wrong serial_rules serial_lays before after ended (subst (λ (x : Form). Promises (rules_by x) serial_lays x ended before after) e c.execute-ended.ensures.promises)),
    )

pub returns-clause-nothing : goal.returns-clause-nothing
returns-clause-nothing g c = let r = g.R.RegFile in let f = g.F.Files in let o = g.O.Sink in
    let before = seen f r o c.args.files.now c.args.regs.now c.args.out.now in
    let after = seen f r o c.execute-ended.new.files c.execute-ended.new.regs c.execute-ended.new.out in
    let form = form_of (texts_of c.args.words.now) in let rules = rules_by form in let ended = c.execute-ended.result in
    λ e. let nothing = to_nothing rules serial_lays form before after ended (subst IsEarly c.status_of.ensures e) c.execute-ended.ensures.promises in
    (nothing.text, nothing.operations)

pub returns-clause-names : goal.returns-clause-names
returns-clause-names g c = let r = g.R.RegFile in let f = g.F.Files in let o = g.O.Sink in
    let before = seen f r o c.args.files.now c.args.regs.now c.args.out.now in
    let after = seen f r o c.execute-ended.new.files c.execute-ended.new.regs c.execute-ended.new.out in
    let form = form_of (texts_of c.args.words.now) in let rules = rules_by form in let ended = c.execute-ended.result in
    λ other. to_names rules serial_lays form before after ended (λ e. other (c.status_of.ensures ∙ e)) c.execute-ended.ensures.promises

pub returns-clause-demo : goal.returns-clause-demo
returns-clause-demo g c = let r = g.R.RegFile in let f = g.F.Files in let o = g.O.Sink in
    let before = seen f r o c.args.files.now c.args.regs.now c.args.out.now in
    let after = seen f r o c.execute-ended.new.files c.execute-ended.new.regs c.execute-ended.new.out in
    let form = form_of (texts_of c.args.words.now) in let rules = rules_by form in let ended = c.execute-ended.result in
    subst (λ (status : Status). LeavesFiles form status before after) (sym c.status_of.ensures) (to_demo rules serial_lays form before after ended c.execute-ended.ensures.promises)
