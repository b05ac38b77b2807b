-- By which form and by what boxes of a system are settled.
use Rattle.std.specs.Prelude.{ℕ, List}
use Rattle.pv_interval.specs.Bounds.{Bounds}
use Rattle.pv_interval.specs.Points.{Point}
use Rattle.pv_settle.specs.Rules.{SettlerParts}
use Rattle.pv_settle.specs.Rules as natural
use Rattle.pv_settle.specs.Settlers as natural_settlers
use Rattle.pv_settle.specs.Settling as natural_settling
use Rattle.pv_settle.specs.Spelling as natural_spelling
use Rattle.pv_slope.specs.Settlers as centered_settlers
use Rattle.pv_slope.specs.Settling.{settle_centered}
use Rattle.pv_slope.specs.Spelling as centered_spelling
use Rattle.pv_tree.specs.declared.outcome.Outcome.{Outcome}
use Rattle.pv_slope.specs.declared.form.Form.{Form}
use Rattle.pv_slope.specs.declared.form.Form.TheVariants as form
use Rattle.pv_slope.specs.declared.form.FormSettler.{FormSettler}
use Rattle.pv_slope.specs.declared.form.FormSettler.TheVariants as settler

-- a form of intervals, and the parts of a settler
pub record Method : Type 0 where
  pub form : Form
  pub parts : SettlerParts

abbrev pub settle_as : Form → SettlerParts → List Bounds → ℕ → ℕ → Outcome
settle_as form.Plain parts = natural_settling.settle_by parts
settle_as form.Centered parts = settle_centered parts

abbrev pub identity_as : Form → SettlerParts → List ℕ
identity_as form.Plain parts = natural_spelling.identity_of parts
identity_as form.Centered parts = centered_spelling.identity_of parts

-- the outcome for a box, where so many more cuts are allowed and the box's path has so many steps
abbrev pub settle_by : Method → List Bounds → ℕ → ℕ → Outcome
settle_by m = settle_as m.form m.parts

-- the digest for which pavings are stored
abbrev pub identity_of : Method → List ℕ
identity_of m = identity_as m.form m.parts

abbrev pub dims_of : Method → ℕ
dims_of m = natural.dims_of m.parts

-- the points that the program speaks of; they don't depend on the form
abbrev pub is_member : Method → Point → Type 0
is_member m = natural_settling.is_member m.parts

-- a settler by a form as its callers see it
abbrev pub method_of : FormSettler → Method
method_of (settler.Plain s) = record { form = form.Plain; parts = natural_settlers.rule_of s }
method_of (settler.Centered s) = record { form = form.Centered; parts = centered_settlers.rule_of s }
