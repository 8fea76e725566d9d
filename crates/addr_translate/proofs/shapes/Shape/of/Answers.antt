use Rattle.std.proofs.Common.{List, length, drop, replicate, refl, sym, subst}
use Rattle.std.proofs.lemmas.List.{take_at}
use Rattle.addr_translate.specs.declared.shapes.GroupShape.{GroupShape}
use Rattle.addr_translate.specs.Geometry.{Geometry, unused_group, IsGeometry}
use Rattle.addr_translate.proofs.GeometryLemmas.{front_padded}
use Rattle.addr_translate.proofs.shapes.Shape.of.Goals as goal

pub invariant_of-result : goal.invariant_of-result
invariant_of-result c =
    let groups : List GroupShape = c.args.groups.now in
    let rest : List GroupShape = drop (length groups) (replicate 12 unused_group) in
    let made : List GroupShape → Geometry = λ gs. record { groups = gs; split = c.args.split } in
    let good : IsGeometry (made groups) = record {
      some_groups = c.requires.some_groups;
      few_groups = c.requires.few_groups;
      each = c.requires.each;
      least_split = c.requires.least_split;
      most_split = c.requires.most_split;
    } in
    rw c.copy_from_slice.ensures.after
    (front_padded groups, subst (λ gs. IsGeometry (made gs)) (sym (take_at groups rest (length groups) refl)) good)
