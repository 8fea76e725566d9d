use Rattle.std.proofs.Common.{Ok, Err, refl, subst}
use Rattle.outside.proofs.ToldLemmas.{told_weaker, stays_same}
use Rattle.switch_model.specs.Changes.{judged}
use Rattle.switch_model.specs.Changes as model
use Rattle.rule_txn.specs.Changes.{add_cause, resize_cause, remove_cause, release_cause}
use Rattle.flymon_engine.specs.declared.work.Change.TheVariants.{Add, Resize, Remove, Release}
use Rattle.flymon_engine.specs.ChangeLines.{Tells}
use Rattle.flymon_engine.proofs.SerialLemmas.{serial_fills, serial_edits, still_fits, remove_fills, release_fills, remove_caused, release_caused, told_here}
use Rattle.flymon_engine.proofs.serial.Serial.edit.Goals as goal

pub returns-in-Ok-clause-fills : goal.returns-in-Ok-clause-fills
returns-in-Ok-clause-fills g c = let r = g.R.RegFile in
    told_weaker (r.contents c.args.regs.now) (r.contents c.add.new.regs)
    (λ d e refills. serial_fills add_cause c.args.change.now (Add c.in-Add.task) c.in-Add.is (Ok c.in-Ok.field-0) (Ok c.line_done.result)
    c.args.self.now.switch c.add.new.self d e c.in-Ok.ensures.answer c.line_done.ensures refills)
    c.in-Ok.ensures.contents

pub returns-in-Ok-clause-edits : goal.returns-in-Ok-clause-edits
returns-in-Ok-clause-edits g c = let r = g.R.RegFile in
    serial_edits add_cause c.args.change.now (Add c.in-Add.task) c.in-Add.is (Ok c.in-Ok.field-0) (Ok c.line_done.result)
    c.args.self.now.switch c.add.new.self (r.calls c.args.regs.now) (r.calls c.add.new.regs) c.requires.limits c.is_allowed.ensures (λ fault caused. tt) c.in-Ok.ensures.answer c.in-Ok.ensures.calls c.line_done.ensures

pub returns-in-Err-clause-fits : goal.returns-in-Err-clause-fits
returns-in-Err-clause-fits g c = let r = g.R.RegFile in
    still_fits add_cause (judged c.args.self.now.switch.geometry c.args.self.now.switch.outlines (model.Add c.in-Add.task)) (Err c.in-Err.fault) c.args.self.now c.add.new.self
    (r.dims c.args.regs.now) (r.dims c.add.new.regs) c.in-Err.ensures.answer c.in-Err.ensures.dims c.requires

pub returns-in-Err-clause-fills : goal.returns-in-Err-clause-fills
returns-in-Err-clause-fills g c = let r = g.R.RegFile in
    told_weaker (r.contents c.args.regs.now) (r.contents c.add.new.regs)
    (λ d e refills. serial_fills add_cause c.args.change.now (Add c.in-Add.task) c.in-Add.is (Err c.in-Err.fault) c.denied.result
    c.args.self.now.switch c.add.new.self d e c.in-Err.ensures.answer (subst (λ why. Tells why c.args.change.now c.denied.result) c.add_reason.ensures c.denied.ensures) refills)
    c.in-Err.ensures.contents

pub returns-in-Err-clause-edits : goal.returns-in-Err-clause-edits
returns-in-Err-clause-edits g c = let r = g.R.RegFile in
    serial_edits add_cause c.args.change.now (Add c.in-Add.task) c.in-Add.is (Err c.in-Err.fault) c.denied.result
    c.args.self.now.switch c.add.new.self (r.calls c.args.regs.now) (r.calls c.add.new.regs) c.requires.limits c.is_allowed.ensures (λ fault caused. tt) c.in-Err.ensures.answer c.in-Err.ensures.calls (subst (λ why. Tells why c.args.change.now c.denied.result) c.add_reason.ensures c.denied.ensures)

pub returns-in-Ok-resize-clause-fills : goal.returns-in-Ok-resize-clause-fills
returns-in-Ok-resize-clause-fills g c = let r = g.R.RegFile in
    told_weaker (r.contents c.args.regs.now) (r.contents c.resize.new.regs)
    (λ d e refills. serial_fills resize_cause c.args.change.now (Resize c.in-Resize.name c.in-Resize.size) c.in-Resize.is (Ok c.in-Ok-resize.field-0) (Ok c.line_done-in-Ok-resize.result)
    c.args.self.now.switch c.resize.new.self d e c.in-Ok-resize.ensures.answer c.line_done-in-Ok-resize.ensures refills)
    c.in-Ok-resize.ensures.contents

pub returns-in-Ok-resize-clause-edits : goal.returns-in-Ok-resize-clause-edits
returns-in-Ok-resize-clause-edits g c = let r = g.R.RegFile in
    serial_edits resize_cause c.args.change.now (Resize c.in-Resize.name c.in-Resize.size) c.in-Resize.is (Ok c.in-Ok-resize.field-0) (Ok c.line_done-in-Ok-resize.result)
    c.args.self.now.switch c.resize.new.self (r.calls c.args.regs.now) (r.calls c.resize.new.regs) c.requires.limits tt (λ fault caused. tt) c.in-Ok-resize.ensures.answer c.in-Ok-resize.ensures.calls c.line_done-in-Ok-resize.ensures

pub returns-in-Err-resize-clause-fits : goal.returns-in-Err-resize-clause-fits
returns-in-Err-resize-clause-fits g c = let r = g.R.RegFile in
    still_fits resize_cause (judged c.args.self.now.switch.geometry c.args.self.now.switch.outlines (model.Resize c.in-Resize.name c.in-Resize.size)) (Err c.in-Err-resize.fault) c.args.self.now c.resize.new.self
    (r.dims c.args.regs.now) (r.dims c.resize.new.regs) c.in-Err-resize.ensures.answer c.in-Err-resize.ensures.dims c.requires

pub returns-in-Err-resize-clause-fills : goal.returns-in-Err-resize-clause-fills
returns-in-Err-resize-clause-fills g c = let r = g.R.RegFile in
    told_weaker (r.contents c.args.regs.now) (r.contents c.resize.new.regs)
    (λ d e refills. serial_fills resize_cause c.args.change.now (Resize c.in-Resize.name c.in-Resize.size) c.in-Resize.is (Err c.in-Err-resize.fault) c.denied-in-Err-resize.result
    c.args.self.now.switch c.resize.new.self d e c.in-Err-resize.ensures.answer (subst (λ why. Tells why c.args.change.now c.denied-in-Err-resize.result) c.resize_reason.ensures c.denied-in-Err-resize.ensures) refills)
    c.in-Err-resize.ensures.contents

pub returns-in-Err-resize-clause-edits : goal.returns-in-Err-resize-clause-edits
returns-in-Err-resize-clause-edits g c = let r = g.R.RegFile in
    serial_edits resize_cause c.args.change.now (Resize c.in-Resize.name c.in-Resize.size) c.in-Resize.is (Err c.in-Err-resize.fault) c.denied-in-Err-resize.result
    c.args.self.now.switch c.resize.new.self (r.calls c.args.regs.now) (r.calls c.resize.new.regs) c.requires.limits tt (λ fault caused. tt) c.in-Err-resize.ensures.answer c.in-Err-resize.ensures.calls (subst (λ why. Tells why c.args.change.now c.denied-in-Err-resize.result) c.resize_reason.ensures c.denied-in-Err-resize.ensures)

pub returns-in-Ok-remove-clause-fills : goal.returns-in-Ok-remove-clause-fills
returns-in-Ok-remove-clause-fills g c = let r = g.R.RegFile in
    told_here _ (r.contents c.args.regs.now)
    (λ d. serial_fills remove_cause c.args.change.now (Remove c.in-Remove.name) c.in-Remove.is (Ok c.in-Ok-remove.field-0) (Ok c.line_done-in-Ok-remove.result)
    c.args.self.now.switch c.remove.new.self d d c.in-Ok-remove.ensures c.line_done-in-Ok-remove.ensures (remove_fills c.args.self.now.switch c.in-Remove.name (Ok c.in-Ok-remove.field-0) d))

pub returns-in-Ok-remove-clause-edits : goal.returns-in-Ok-remove-clause-edits
returns-in-Ok-remove-clause-edits g c = let r = g.R.RegFile in
    serial_edits remove_cause c.args.change.now (Remove c.in-Remove.name) c.in-Remove.is (Ok c.in-Ok-remove.field-0) (Ok c.line_done-in-Ok-remove.result)
    c.args.self.now.switch c.remove.new.self (r.calls c.args.regs.now) (r.calls c.args.regs.now) c.requires.limits tt (remove_caused (Remove c.in-Remove.name)) c.in-Ok-remove.ensures (stays_same (r.calls c.args.regs.now)) c.line_done-in-Ok-remove.ensures

pub returns-in-Err-remove-clause-fills : goal.returns-in-Err-remove-clause-fills
returns-in-Err-remove-clause-fills g c = let r = g.R.RegFile in
    told_here _ (r.contents c.args.regs.now)
    (λ d. serial_fills remove_cause c.args.change.now (Remove c.in-Remove.name) c.in-Remove.is (Err c.in-Err-remove.field-0) (Ok c.line_denied.result)
    c.args.self.now.switch c.remove.new.self d d c.in-Err-remove.ensures c.line_denied.ensures (remove_fills c.args.self.now.switch c.in-Remove.name (Err c.in-Err-remove.field-0) d))

pub returns-in-Err-remove-clause-edits : goal.returns-in-Err-remove-clause-edits
returns-in-Err-remove-clause-edits g c = let r = g.R.RegFile in
    serial_edits remove_cause c.args.change.now (Remove c.in-Remove.name) c.in-Remove.is (Err c.in-Err-remove.field-0) (Ok c.line_denied.result)
    c.args.self.now.switch c.remove.new.self (r.calls c.args.regs.now) (r.calls c.args.regs.now) c.requires.limits tt (remove_caused (Remove c.in-Remove.name)) c.in-Err-remove.ensures (stays_same (r.calls c.args.regs.now)) c.line_denied.ensures

pub returns-in-Ok-release-clause-fills : goal.returns-in-Ok-release-clause-fills
returns-in-Ok-release-clause-fills g c = let r = g.R.RegFile in
    told_here _ (r.contents c.args.regs.now)
    (λ d. serial_fills release_cause c.args.change.now (Release c.in-Release.name) c.in-Release.is (Ok c.in-Ok-release.field-0) (Ok c.line_done-in-Ok-release.result)
    c.args.self.now.switch c.release.new.self d d c.in-Ok-release.ensures c.line_done-in-Ok-release.ensures (release_fills c.args.self.now.switch c.in-Release.name (Ok c.in-Ok-release.field-0) d))

pub returns-in-Ok-release-clause-edits : goal.returns-in-Ok-release-clause-edits
returns-in-Ok-release-clause-edits g c = let r = g.R.RegFile in
    serial_edits release_cause c.args.change.now (Release c.in-Release.name) c.in-Release.is (Ok c.in-Ok-release.field-0) (Ok c.line_done-in-Ok-release.result)
    c.args.self.now.switch c.release.new.self (r.calls c.args.regs.now) (r.calls c.args.regs.now) c.requires.limits tt (release_caused (Release c.in-Release.name)) c.in-Ok-release.ensures (stays_same (r.calls c.args.regs.now)) c.line_done-in-Ok-release.ensures

pub returns-in-Err-release-clause-fits : goal.returns-in-Err-release-clause-fits
returns-in-Err-release-clause-fits g c = let r = g.R.RegFile in
    still_fits release_cause (judged c.args.self.now.switch.geometry c.args.self.now.switch.outlines (model.Release c.in-Release.name)) (Err c.in-Err-release.fault) c.args.self.now c.release.new.self
    (r.dims c.args.regs.now) (r.dims c.args.regs.now) c.in-Err-release.ensures refl c.requires

pub returns-in-Err-release-clause-fills : goal.returns-in-Err-release-clause-fills
returns-in-Err-release-clause-fills g c = let r = g.R.RegFile in
    told_here _ (r.contents c.args.regs.now)
    (λ d. serial_fills release_cause c.args.change.now (Release c.in-Release.name) c.in-Release.is (Err c.in-Err-release.fault) (Ok c.line_denied-in-Err-release.result)
    c.args.self.now.switch c.release.new.self d d c.in-Err-release.ensures (subst (λ why. Tells why c.args.change.now (Ok c.line_denied-in-Err-release.result)) c.release_reason.ensures c.line_denied-in-Err-release.ensures) (release_fills c.args.self.now.switch c.in-Release.name (Err c.in-Err-release.fault) d))

pub returns-in-Err-release-clause-edits : goal.returns-in-Err-release-clause-edits
returns-in-Err-release-clause-edits g c = let r = g.R.RegFile in
    serial_edits release_cause c.args.change.now (Release c.in-Release.name) c.in-Release.is (Err c.in-Err-release.fault) (Ok c.line_denied-in-Err-release.result)
    c.args.self.now.switch c.release.new.self (r.calls c.args.regs.now) (r.calls c.args.regs.now) c.requires.limits tt (release_caused (Release c.in-Release.name)) c.in-Err-release.ensures (stays_same (r.calls c.args.regs.now)) (subst (λ why. Tells why c.args.change.now (Ok c.line_denied-in-Err-release.result)) c.release_reason.ensures c.line_denied-in-Err-release.ensures)
