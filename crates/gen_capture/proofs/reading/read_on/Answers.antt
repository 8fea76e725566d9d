use Rattle.std.proofs.Common.{sym, ◌∙◌, arith}
use Rattle.gen_capture.specs.Scripts.{script_text}
use Rattle.gen_capture.specs.Captures.{capture_text}
use Rattle.gen_capture.specs.Places.{offset_of}
use Rattle.gen_capture.proofs.PlaceLemmas.{all_read}
use Rattle.gen_capture.proofs.reading.read_on.Goals as goal

pub returns-in-Script-clause-end : goal.returns-in-Script-clause-end
returns-in-Script-clause-end c = λ seed placed room none.
    let read = all_read c.in-Script.at script_text (c.read_script.ensures.end room none) in
    omega (arith, read, c.read_script.ensures.at)

pub returns-in-Capture-clause-end : goal.returns-in-Capture-clause-end
returns-in-Capture-clause-end c = λ seed placed room none.
    let here = rw c.in-Capture.is at placed in
    let none_left = sym here ∙ c.read_capture.ensures.end room none in
    let read = all_read (offset_of c.in-Capture.place) (capture_text seed c.args.count) none_left in
    omega (arith, read, c.read_capture.ensures.offset)
