use Rattle.readout.proofs.TwoTasksLemmas.{view_fit, view_room}
use Rattle.readout.proofs.tests.view_of.Goals as goal

pub returns-clause-fit : goal.returns-clause-fit
returns-clause-fit c =
    view_fit c.args.hot c.args.other c.args.bits c.place.result c.place-2.result c.place-3.result c.place.ensures c.place-2.ensures c.place-3.ensures
    c.requires.hot_rows c.requires.hot_size c.requires.hot_kind c.requires.other_rows c.requires.other_size c.requires.few c.requires.ranks

pub returns-clause-room : goal.returns-clause-room
returns-clause-room c =
    view_room c.args.hot c.args.other c.args.bits c.place.result c.place-2.result c.place-3.result c.place.ensures c.place-3.ensures c.requires.few
