-- What is known of the leaves that a growth is still to be given.
use Rattle.std.specs.Prelude.{List, [], ◌∷◌, ◌++◌}
use Rattle.pv_interval.specs.Bounds.{Bounds}
use Rattle.pv_tree.specs.declared.outcome.Outcome.{Outcome}
use Rattle.pv_tree.specs.declared.outcome.Outcome.TheVariants.{Removed, Inner, Small, Cut}
use Rattle.pv_tree.specs.Holes.{Hole}

-- each fact is true of the box of its leaf, in their order
abbrev pub AreKnown : {K : Type 0} → (K → List Bounds → Type 0) → List K → List Hole → Type 0
AreKnown knows [] [] = Unit {0}
AreKnown knows [] (hole ∷ holes) = ⊥
AreKnown knows (k ∷ ks) [] = ⊥
AreKnown knows (k ∷ ks) (hole ∷ holes) = knows k hole.box × AreKnown knows ks holes

-- what is known of the leaves to come, once one more was settled: the same of each half of a cut
abbrev pub with_handed : {K : Type 0} → List K → Outcome → K → List K
with_handed ks Removed k = ks
with_handed ks (Inner to) k = ks
with_handed ks (Small to) k = ks
with_handed ks (Cut to var at) k = (ks ++ k ∷ []) ++ k ∷ []
