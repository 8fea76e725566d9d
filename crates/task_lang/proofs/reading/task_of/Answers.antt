use Rattle.sketch_defs.proofs.TaskLemmas.{no_fault}
use Rattle.task_lang.proofs.ReadLemmas.{not_both}
use Rattle.task_lang.proofs.reading.task_of.Goals as goal

pub unreachable-requires : goal.unreachable-requires
unreachable-requires c =
    not_both c.in-Err.field-0 c.in-Err.ensures
    (no_fault (record {
      name = c.args.name;
      kind = c.args.kind;
      rows = c.args.rows;
      key = c.args.key;
      attr = c.args.attr;
      filter = c.args.filter;
      size = c.args.size;
    }) c.requires.rows c.requires.key c.requires.attr)
