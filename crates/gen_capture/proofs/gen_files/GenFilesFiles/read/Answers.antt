use Rattle.std.proofs.Common.{◌≡◌, None, Some, length, ap, ◌∙◌, arith, rules}
use Rattle.std.specs.List.{slice_index_or}
use Rattle.std.proofs.lemmas.List.{get_or_default}
use Rattle.fm_io.specs.Slots.{slot_at}
use Rattle.gen_capture.specs.Places.{slot_in, slots_in}
use Rattle.gen_capture.proofs.PlaceLemmas.{slot_of_place, slot_moves, slot_ends}
use Rattle.gen_capture.proofs.gen_files.GenFilesFiles.read.Goals as goal

pub returns-clause-slot : goal.returns-clause-slot
returns-clause-slot c =
    let files = c.args.self.now in
    let slot = c.args.slot in
    let three : length files.places ≡ 3 = search rules in
    let is : slice_index_or files.places slot None ≡ Some c.in-Some.place =
    get_or_default files.places slot None _ (omega (arith, c.requires.slot)) ∙ c.in-Some.is in
    let old : slot_at (slots_in files.seed files.count files.places) slot
    ≡ slot_in files.seed files.count (Some c.in-Some.place) =
    slot_of_place files.seed files.count slot files.places c.requires.slot ∙ ap (slot_in files.seed files.count) is in
    let placed = rw is at (files.placed slot) in
    slot_moves files.seed files.count c.in-Some.place c.read_on-read.new.place _ _ old
    (c.put_place.ensures.here files.seed files.count)
    (c.read_on-read.ensures.yields files.seed placed)

pub returns-clause-end : goal.returns-clause-end
returns-clause-end c = λ none.
    let files = c.args.self.now in
    let slot = c.args.slot in
    let three : length files.places ≡ 3 = search rules in
    let is : slice_index_or files.places slot None ≡ Some c.in-Some.place =
    get_or_default files.places slot None _ (omega (arith, c.requires.slot)) ∙ c.in-Some.is in
    let placed = rw is at (files.placed slot) in
    slot_ends files.seed files.count c.read_on-read.new.place _ (c.put_place.ensures.here files.seed files.count)
    (c.read_on-read.ensures.end files.seed placed c.requires.room none)
