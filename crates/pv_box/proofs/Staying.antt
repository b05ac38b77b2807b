-- An end that is no better than the best so far changes nothing, whether or not it counts.
use Rattle.std.proofs.Common.{◌≡◌, refl, ap}
use Rattle.std.specs.Prelude.{IsTrue, Some, Bool, true, false}
use Rattle.pv_num.specs.Extended.{Extended}
use Rattle.pv_num.specs.Order.{le}
use Rattle.pv_interval.proofs.Choices.{lesser_second, greater_second}
use Rattle.pv_box.specs.QHull.{lower_of, upper_of}

pub stays_low : (best e : Extended) → IsTrue (le best e) → (counts : Bool) → lower_of counts e (Some best) ≡ Some best
stays_low best e h false = refl
stays_low best e h true = ap Some (lesser_second e best h)

pub stays_high : (best e : Extended) → IsTrue (le e best) → (counts : Bool) → upper_of counts e (Some best) ≡ Some best
stays_high best e h false = refl
stays_high best e h true = ap Some (greater_second e best h)
