use Rattle.std.proofs.Common.{ap, sym, subst, ◌∙◌}
use Rattle.pv_num.specs.Parts.{IsPartsOf, parts_of}
use Rattle.pv_num.proofs.Canonical.{finite_is, parts_of-are}
use Rattle.pv_num.proofs.num.Num.parts.Goals as goal

pub returns-clause-value : goal.returns-clause-value
returns-clause-value c = c.odd_parts.ensures ∙ ap parts_of (finite_is c.args.self _ _ (sym c.if-is_infinite.ensures) c.is_negative-negative.ensures c.size.ensures)

pub returns-clause-canonical : goal.returns-clause-canonical
returns-clause-canonical c =
    subst (IsPartsOf c.args.self)
    (sym (c.odd_parts.ensures ∙ ap parts_of (finite_is c.args.self _ _ (sym c.if-is_infinite.ensures) c.is_negative-negative.ensures c.size.ensures)))
    (parts_of-are c.args.self)
