-- The settler by either form meets the laws of settlers.
use Rattle.std.proofs.Common.{◌≡◌, ℕ, ◌≤◌, List, length}
use Rattle.pv_interval.specs.Bounds.{Bounds}
use Rattle.pv_box.specs.Boxes.{IsBox}
use Rattle.pv_tree.specs.Trees.{Fits, KeepsBox, CutsAbove}
use Rattle.pv_tree.specs.Sets.{IsSoundOutcome}
use Rattle.pv_settle.specs.Settlers as natural
use Rattle.pv_settle.specs.Laws.{settle_fits, settle_keeps_box, settle_ends, settle_sound}
use Rattle.pv_slope.specs.Settlers as centered
use Rattle.pv_slope.specs.Laws.{centered_fits, centered_keeps_box, centered_ends, centered_sound}
use Rattle.pv_slope.specs.Methods.{method_of, dims_of, settle_by, is_member}
use Rattle.pv_slope.specs.declared.form.FormSettler.{FormSettler}
use Rattle.pv_slope.specs.declared.form.FormSettler.TheVariants.{Plain, Centered}
use Rattle.pv_box.specs.declared.boxes.TheConstants.{MOST_PLACES}
use Rattle.pv_tree.specs.declared.path.TheConstants.{MOST_STEPS}

pub form_dims : (s : FormSettler) → (1 ≤ dims_of (method_of s)) × (dims_of (method_of s) ≤ MOST_PLACES)
form_dims (Plain s) = (s.names_some, s.names_few)
form_dims (Centered s) = (s.dims_some, s.dims_few)

pub form_depth : (s : FormSettler) → (1 ≤ (method_of s).parts.depth) × ((method_of s).parts.depth ≤ MOST_STEPS)
form_depth (Plain s) = (s.depth_some, s.depth_few)
form_depth (Centered s) = (s.depth_some, s.depth_few)

pub form_fits : (s : FormSettler) (b : List Bounds) (d k : ℕ) → IsBox b → length b ≡ dims_of (method_of s) → Fits b (settle_by (method_of s) b d k)
form_fits (Plain s) b d k i l = settle_fits (natural.rule_of s) s.over s.program_fits b d k i
form_fits (Centered s) b d k i l = centered_fits (centered.rule_of s) s.over s.program_fits b d k i

pub form_keeps_box : (s : FormSettler) (b : List Bounds) (d k : ℕ) → IsBox b → length b ≡ dims_of (method_of s) → KeepsBox (settle_by (method_of s) b d k)
form_keeps_box (Plain s) b d k i l = settle_keeps_box (natural.rule_of s) s.over s.program_fits b d k i
form_keeps_box (Centered s) b d k i l = centered_keeps_box (centered.rule_of s) s.over s.program_fits b d k i

pub form_ends : (s : FormSettler) (b : List Bounds) (d k : ℕ) → IsBox b → length b ≡ dims_of (method_of s) → CutsAbove d (settle_by (method_of s) b d k)
form_ends (Plain s) b d k i l = settle_ends (natural.rule_of s) b d k
form_ends (Centered s) b d k i l = centered_ends (centered.rule_of s) b d k

pub form_sound : (s : FormSettler) (b : List Bounds) (d k : ℕ) → IsBox b → length b ≡ dims_of (method_of s) → IsSoundOutcome (is_member (method_of s)) b (settle_by (method_of s) b d k)
form_sound (Plain s) b d k i l = settle_sound (natural.rule_of s) s.over s.dims s.program_fits b d k i l
form_sound (Centered s) b d k i l = centered_sound s.encloses (centered.rule_of s) s.over s.dims s.program_fits b d k i l
