-- Boxes that are written place by place.
use Rattle.std.proofs.Common.{◌≡◌, ℕ, suc, ◌<◌, List, [], ◌∷◌, length, get_or, refl, arith}
use Rattle.pv_interval.specs.Bounds.{Bounds, between}
use Rattle.pv_least.specs.declared.candidate.Candidate.{Candidate}
use Rattle.pv_least.specs.Candidates.{number_of, exactly_at}

-- the interval of a point's number in a place
abbrev pub spot : Candidate → Bounds → Bounds
spot c x = between (number_of c x) (number_of c x)

pub all_places : (c : Candidate) (to p : List Bounds) → length p ≡ length to → ((k : ℕ) (d : Bounds) → k < length to → get_or p k d ≡ spot c (get_or to k d)) → p ≡ exactly_at c to
all_places c [] [] e h = refl
all_places c [] (y ∷ p) e h = absurd (omega arith)
all_places c (x ∷ to) [] e h = absurd (omega arith)
all_places c (x ∷ to) (y ∷ p) e h =
    let first : y ≡ spot c x = h 0 x (omega arith) in
    let rest : p ≡ exactly_at c to = all_places c to p (omega arith) (λ k d l. h (suc k) d (omega arith)) in
    λ i. first i ∷ rest i
