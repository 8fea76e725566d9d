use Rattle.std.proofs.Common.{List, ap, ◌∙◌}
use Rattle.std.proofs.lemmas.List.{take-replicate}
use Rattle.addr_translate.specs.declared.shapes.GroupShape.{GroupShape}
use Rattle.addr_translate.specs.Geometry.{Geometry}
use Rattle.addr_translate.proofs.shapes.Shape.equal.Goals as goal

pub returns : goal.returns
returns c =
    let made : List GroupShape → Geometry = λ gs. record { groups = gs; split = c.args.split } in
    c.of.ensures ∙ ap made (take-replicate c.args.count 12 c.args.group c.requires.few_groups)
