use Rattle.std.proofs.Common.{◌≡◌, Option, Some, IsSome, rules}
use Rattle.pv_interval.specs.Bounds.{Bounds}
use Rattle.pv_expr.specs.Searches.{search_bounds}
use Rattle.pv_expr.proofs.Outward.{interval_some}
use Rattle.pv_expr.proofs.system.interval_of.Goals as goal

is_some_from : (r : Option Bounds) (x : Bounds) → r ≡ Some x → IsSome r
is_some_from r x e = rw e (search rules)

pub unwrap-requires : goal.unwrap-requires
unwrap-requires c =
    let some = interval_some c.args.domain c.requires in
    let e : c.new.result ≡ Some (search_bounds c.args.domain) = cc (some, c.new.ensures, c.end_of.ensures, c.end_of-2.ensures) in
    is_some_from c.new.result _ e
