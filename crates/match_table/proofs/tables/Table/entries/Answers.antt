use Rattle.std.proofs.Common.{◌≤◌, length, subst}
use Rattle.std.specs.List.{AllPairs}
use Rattle.match_table.specs.Tables.{EntryTable, StandApart}
use Rattle.match_table.proofs.tables.Table.entries.Goals as goal

pub returns-clause-apart : goal.returns-clause-apart
returns-clause-apart c = subst (λ (r : EntryTable). AllPairs StandApart r.entries) c.self.view_is c.self.invariant.apart

pub returns-clause-few : goal.returns-clause-few
returns-clause-few c = subst (λ (r : EntryTable). length r.entries ≤ r.room) c.self.view_is c.self.invariant.few
