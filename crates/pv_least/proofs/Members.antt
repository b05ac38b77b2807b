-- What the leaves of a sound paving tell of the members.
use Rattle.std.proofs.Common.{◌≡◌, inl, inr, ℕ, zero, suc, Bool, true, false, cond, List, [], ◌∷◌, ◌++◌, length, refl, sym, ◌∙◌, subst, arith}
use Rattle.std.specs.Prelude.{Option, Some, None, IfSome, map, ℤ}
use Rattle.pv_num.specs.Extended.{Extended, NegInf, Fin, PosInf}
use Rattle.pv_num.specs.Order.{lesser}
use Rattle.pv_num.specs.Grid.{unit}
use Rattle.pv_interval.specs.Bounds.{Bounds, between}
use Rattle.pv_interval.specs.Fractions.{Fraction}
use Rattle.pv_interval.specs.Points.{Point, Lies, IsBelow, IsAbove}
use Rattle.pv_interval.proofs.Values.{below_le, above_le}
use Rattle.pv_interval.proofs.Choices.{lesser_left}
use Rattle.pv_box.specs.Boxes.{IsBox, IsWithin, LieIn, PointIn, lower_half, upper_half}
use Rattle.pv_expr.specs.Terms.{Term, value_at}
use Rattle.pv_expr.specs.Systems.{IsOver}
use Rattle.pv_hc4.specs.Forward.{forward_of}
use Rattle.pv_hc4.specs.Totality.{total_of}
use Rattle.pv_hc4.proofs.Lying.{InSome, forward_lies}
use Rattle.pv_hc4.proofs.Sureness.{value_defined}
use Rattle.pv_tree.specs.Trees.{Tree, leaf, removed, inner, small, cut, Paves, IsStrictlyInside, IsBetween}
use Rattle.pv_tree.specs.Sets.{IsSound, IsCovered}
use Rattle.pv_tree.proofs.Wholes.{within_length, half_length}
use Rattle.pv_tree.proofs.Covered.{covers}
use Rattle.pv_least.specs.declared.candidate.Candidate.{Candidate}
use Rattle.pv_least.specs.declared.candidate.Candidate.TheVariants.{Low, Centre, High}
use Rattle.pv_least.specs.declared.found.BestPoint.{BestPoint}
use Rattle.pv_least.specs.Points.{exact_box, units_of, rational}
use Rattle.pv_least.specs.Objectives.{lower_end, upper_end, low_of, value_bound}
use Rattle.pv_least.specs.Candidates.{point_in, exactly_at}
use Rattle.pv_least.specs.Searches.{leaves_below, leaves_of, lows, points, counting, candidate, with_bound, as_list, least_of, lower_of, best_of}
use Rattle.pv_least.specs.Promises.{NoneIsBelow, IsWitness}
use Rattle.pv_least.proofs.Choosing.{least_of-left, least_of-right, AllPoints, best_of_all, all_more}
use Rattle.pv_least.proofs.Leaves.{lows-append, points-append}
use Rattle.pv_least.proofs.Numbers.{lt_le, numbers_lie, exactly_lies, numbers_finite}

-- ---- values from below

low_below : (o : Option Bounds) (v : Fraction) → InSome v o → IsBelow (least_of (as_list (lower_end o) ++ [])) v.top v.under
low_below None v h = absurd h
low_below (Some x) v h = below_le (lesser x.lo PosInf) x.lo v.top v.under (lesser_left x.lo PosInf) h.low

module _ (inside : Point → Type 0) (n : ℕ) (e : Term) (over : IsOver n e) where
  module _ (x : Point) (v : Fraction) (member : inside x) (value : value_at e x.places x.under ≡ Some v) where
    box_below : (b : List Bounds) → PointIn x b → IsBelow (least_of (as_list (low_of e b) ++ [])) v.top v.under
    box_below b h = low_below (forward_of b e) v (forward_lies x n b e v over h value)

    covered_below : (q : List Bool) (b : List Bounds) (t : Tree) → IsSound inside b t → IsCovered x b t → IsBelow (least_of (lows e (leaves_below q b t))) v.top v.under
    covered_below q b leaf s h = box_below b h
    covered_below q b removed s h = absurd (s x h member)
    covered_below q b (inner to) s (inl i) = box_below to i
    covered_below q b (inner to) s (inr o) = absurd (s.0 x o.0 o.1 member)
    covered_below q b (small to) s (inl i) = box_below to i
    covered_below q b (small to) s (inr o) = absurd (s x o.0 o.1 member)
    covered_below q b (cut to w a l m) s (inl o) = absurd (s.0 x o.0 o.1 member)
    covered_below q b (cut to w a l m) s (inr (inl i)) =
        let low = leaves_below (q ++ false ∷ []) (lower_half to w a) l in
        let high = leaves_below (q ++ true ∷ []) (upper_half to w a) m in
        subst (λ xs. IsBelow (least_of xs) v.top v.under) (sym (lows-append e low high))
        (below_le _ _ v.top v.under (least_of-left (lows e low) (lows e high)) (covered_below (q ++ false ∷ []) (lower_half to w a) l s.1 i))
    covered_below q b (cut to w a l m) s (inr (inr i)) =
        let low = leaves_below (q ++ false ∷ []) (lower_half to w a) l in
        let high = leaves_below (q ++ true ∷ []) (upper_half to w a) m in
        subst (λ xs. IsBelow (least_of xs) v.top v.under) (sym (lows-append e low high))
        (below_le _ _ v.top v.under (least_of-right (lows e low) (lows e high)) (covered_below (q ++ true ∷ []) (upper_half to w a) m s.2 i))

  -- ---- points of inner leaves

  lies_within : (ns : List ℤ) (d : ℕ) (c b : List Bounds) → IsWithin c b → LieIn ns d c → LieIn ns d b
  lies_within [] d [] [] w h = h
  lies_within [] d [] (y ∷ b) w h = absurd w
  lies_within [] d (x ∷ c) b w h = absurd h
  lies_within (m ∷ ns) d [] b w h = absurd h
  lies_within (m ∷ ns) d (x ∷ c) [] w h = absurd w
  lies_within (m ∷ ns) d (x ∷ c) (y ∷ b) w h =
      (record { some = h.0.some; low = below_le y.lo x.lo m d w.0 h.0.low; high = above_le x.hi y.hi m d w.1 h.0.high }, lies_within ns d c b w.2 h.1)

  place_low : (m : ℤ) (d : ℕ) (x : Bounds) (a : Extended) → IsBetween a x → Lies m d (between x.lo a) → Lies m d x
  place_low m d x NegInf i h = absurd i
  place_low m d x (Fin c) i h = record { some = h.some; low = h.low; high = above_le (Fin c) x.hi m d (lt_le (Fin c) x.hi i.1) h.high }
  place_low m d x PosInf i h = absurd i

  place_high : (m : ℤ) (d : ℕ) (x : Bounds) (a : Extended) → IsBetween a x → Lies m d (between a x.hi) → Lies m d x
  place_high m d x NegInf i h = absurd i
  place_high m d x (Fin c) i h = record { some = h.some; low = below_le x.lo (Fin c) m d (lt_le x.lo (Fin c) i.0) h.low; high = h.high }
  place_high m d x PosInf i h = absurd i

  low_lies : (ns : List ℤ) (d : ℕ) (b : List Bounds) (w : ℕ) (a : Extended) → IsStrictlyInside a w b → LieIn ns d (lower_half b w a) → LieIn ns d b
  low_lies ns d [] w a i h = absurd i
  low_lies [] d (x ∷ b) zero a i h = absurd h
  low_lies [] d (x ∷ b) (suc w) a i h = absurd h
  low_lies (m ∷ ns) d (x ∷ b) zero a i h = (place_low m d x a i h.0, h.1)
  low_lies (m ∷ ns) d (x ∷ b) (suc w) a i h = (h.0, low_lies ns d b w a i h.1)

  high_lies : (ns : List ℤ) (d : ℕ) (b : List Bounds) (w : ℕ) (a : Extended) → IsStrictlyInside a w b → LieIn ns d (upper_half b w a) → LieIn ns d b
  high_lies ns d [] w a i h = absurd i
  high_lies [] d (x ∷ b) zero a i h = absurd h
  high_lies [] d (x ∷ b) (suc w) a i h = absurd h
  high_lies (m ∷ ns) d (x ∷ b) zero a i h = (place_high m d x a i h.0, h.1)
  high_lies (m ∷ ns) d (x ∷ b) (suc w) a i h = (h.0, high_lies ns d b w a i h.1)

  bound_holds : (o : Option Bounds) (v : Fraction) (u : Extended) → InSome v o → upper_end o ≡ Some u → IsAbove u v.top v.under
  bound_holds None v u h e = absurd h
  bound_holds (Some x) v u h e = let w : x.hi ≡ u = cc in subst (λ a. IsAbove a v.top v.under) w h.high

  total_then : (t : Bool) (o : Option Extended) (u : Extended) → cond t o None ≡ Some u → (t ≡ true) × (o ≡ Some u)
  total_then true o u h = (refl, h)
  total_then false o u h = absurd (let w : None ≡ Some u = h in cc)

  witness : (b to : List Bounds) (c : Candidate) (u : Extended) → IsBox to → length to ≡ n → IsWithin to b → ((x : Point) → PointIn x to → inside x)
      → value_bound e (exactly_at c to) ≡ Some u → IsWitness inside e b (record { point = point_in c to; upper = u })
  witness b to c u box size within members bound =
      let here : PointIn (rational (point_in c to)) to = numbers_lie c to box.intervals in
      let alone : PointIn (rational (point_in c to)) (exactly_at c to) = exactly_lies (point_in c to) (numbers_finite c to box.intervals) in
      let known = total_then (total_of (exactly_at c to) e) (upper_end (forward_of (exactly_at c to) e)) u bound in
      let defined = value_defined (rational (point_in c to)) (exactly_at c to) e (subst (λ k. IsOver k e) (sym (same_length c to size)) over) alone known.0 in
      record {
        within = lies_within (map units_of (point_in c to)) unit to b within here;
        is_member = members (rational (point_in c to)) here;
        value = defined.v;
        defined = defined.is;
        at_most = bound_holds (forward_of (exactly_at c to) e) defined.v u (forward_lies (rational (point_in c to)) n (exactly_at c to) e defined.v over alone defined.is) known.1;
      }
    where
      length-exact : (p : List Extended) → length (exact_box p) ≡ length p
      length-exact [] = refl
      length-exact (a ∷ p) = let s = length-exact p in omega (arith, s)

      length-point : (c : Candidate) (to : List Bounds) → length (point_in c to) ≡ length to
      length-point c [] = refl
      length-point c (x ∷ to) = let s = length-point c to in omega (arith, s)

      same_length : (c : Candidate) (to : List Bounds) → length to ≡ n → length (exactly_at c to) ≡ n
      same_length c to e = length-exact (point_in c to) ∙ length-point c to ∙ e

  one_witness : (b to : List Bounds) (c : Candidate) (o : Option Extended) → IsBox to → length to ≡ n → IsWithin to b → ((x : Point) → PointIn x to → inside x)
      → value_bound e (exactly_at c to) ≡ o → AllPoints (IsWitness inside e b) (as_list (with_bound (point_in c to) o))
  one_witness b to c None box size within members bound = tt
  one_witness b to c (Some u) box size within members bound = (witness b to c u box size within members bound, tt)

  wider : (b to c : List Bounds) (ps : List BestPoint) → ((x : Point) → PointIn x c → PointIn x to) → IsWithin to b → AllPoints (IsWitness inside e c) ps → AllPoints (IsWitness inside e b) ps
  wider b to c [] f w h = tt
  wider b to c (p ∷ ps) f w h =
      (record { within = lies_within _ _ to b w (f (rational p.point) h.0.within); is_member = h.0.is_member; value = h.0.value; defined = h.0.defined; at_most = h.0.at_most }, wider b to c ps f w h.1)

  all_witness : (q : List Bool) (b : List Bounds) (t : Tree) → length b ≡ n → Paves b t → IsSound inside b t → AllPoints (IsWitness inside e b) (points e (leaves_below q b t))
  all_witness q b leaf size p s = tt
  all_witness q b removed size p s = tt
  all_witness q b (inner to) size p s =
      let one : (c : Candidate) → AllPoints (IsWitness inside e b) (as_list (candidate e to c)) =
      λ c. one_witness b to c (value_bound e (exactly_at c to)) p.0 (within_length to b p.1 ∙ size) p.1 s.1 refl in
      all_more (IsWitness inside e b) (counting e to) []
      (all_more (IsWitness inside e b) (as_list (candidate e to Low)) (as_list (candidate e to Centre) ++ as_list (candidate e to High)) (one Low)
      (all_more (IsWitness inside e b) (as_list (candidate e to Centre)) (as_list (candidate e to High)) (one Centre) (one High)))
      tt
  all_witness q b (small to) size p s = tt
  all_witness q b (cut to w a l m) size p s =
      let low = leaves_below (q ++ false ∷ []) (lower_half to w a) l in
      let high = leaves_below (q ++ true ∷ []) (upper_half to w a) m in
      let places : length to ≡ n = within_length to b p.1 ∙ size in
      subst (AllPoints (IsWitness inside e b)) (sym (points-append e low high))
      (all_more (IsWitness inside e b) (points e low) (points e high)
      (wider b to (lower_half to w a) (points e low) (λ x. low_lies x.places x.under to w a p.2) p.1 (all_witness (q ++ false ∷ []) (lower_half to w a) l (half_length true to w a ∙ places) p.3 s.1))
      (wider b to (upper_half to w a) (points e high) (λ x. high_lies x.places x.under to w a p.2) p.1 (all_witness (q ++ true ∷ []) (upper_half to w a) m (half_length false to w a ∙ places) p.4 s.2)))

  -- ---- of a whole paving

  pub none_below : (b : List Bounds) (t : Tree) → Paves b t → IsSound inside b t → NoneIsBelow inside e b (lower_of e b t)
  none_below b t p s x v h member value = covered_below x v member value [] b t s (covers b t p x h)

  pub best_witness : (b : List Bounds) (t : Tree) → length b ≡ n → Paves b t → IsSound inside b t → IfSome (best_of e b t) (IsWitness inside e b)
  best_witness b t size p s = best_of_all (IsWitness inside e b) (points e (leaves_of b t)) (all_witness [] b t size p s)
