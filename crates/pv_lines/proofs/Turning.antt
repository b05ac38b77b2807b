-- What the turns of scribes write together.
use Rattle.std.proofs.Common.{◌≡◌, ℕ, zero, suc, ◌+◌, ◌-◌, ◌*◌, ◌<◌, ◌≤◌, List, [], ◌∷◌, ◌++◌, length, get_or, drop, Option, Some, refl, sym, ◌∙◌, ap, subst, append_assoc, append-nil, arith}
use Rattle.std.proofs.Math.Nat.{mul-suc}
use Rattle.std.proofs.lemmas.List.{drop_more}
use Rattle.std.proofs.lemmas.Option.{IfSome_then}
use Rattle.std.specs.Prelude.{IfSome}
use Rattle.pv_interval.specs.Bounds.{Bounds}
use Rattle.pv_io.specs.Outside.{appended, AppendsFront}
use Rattle.pv_io.proofs.Fronts.{held_front}
use Rattle.pv_tree.specs.Trees.{Tree}
use Rattle.pv_tree.specs.Pieces.{Piece, children_of, root_piece, all_nodes, to_come}
use Rattle.pv_tree.proofs.Pieces.{some_nodes, to_come-step}
use Rattle.pv_file.specs.declared.version.Version.{Version}
use Rattle.pv_file.specs.Lines.{lines_of}
use Rattle.pv_file.specs.Walks.{pending_text, after_steps, AreWritten}
use Rattle.pv_file.specs.Scribes.{Scribed}
use Rattle.pv_lines.specs.Turns.{AreSpread, HasTurned, AreTaken, AreStill, joined}
use Rattle.pv_file.proofs.Handing.{none_after}

-- ---- Steps

pub steps_add : (a b : ℕ) (ps : List Piece) → after_steps (a + b) ps ≡ after_steps b (after_steps a ps)
steps_add zero b ps = let e : 0 + b ≡ b = omega arith in ap (λ (n : ℕ). after_steps n ps) e
steps_add (suc a) b [] = let e : suc a + b ≡ suc (a + b) = omega arith in ap (λ (n : ℕ). after_steps n []) e ∙ sym (none_after b)
steps_add (suc a) b (p ∷ ps) =
    let e : suc a + b ≡ suc (a + b) = omega arith in
    ap (λ (n : ℕ). after_steps n (p ∷ ps)) e ∙ steps_add a b (children_of p ++ ps)

steps_left : (n : ℕ) (ps : List Piece) → to_come (after_steps n ps) ≡ to_come ps - n
steps_left zero ps = omega arith
steps_left (suc n) [] = omega arith
steps_left (suc n) (p ∷ ps) =
    let step : to_come (children_of p ++ ps) + 1 ≡ all_nodes p.tree + to_come ps = to_come-step p.path p.tree ps in
    let rest : to_come (after_steps n (children_of p ++ ps)) ≡ to_come (children_of p ++ ps) - n = steps_left n (children_of p ++ ps) in
    omega arith

none_left : (ps : List Piece) → to_come ps ≡ 0 → ps ≡ []
none_left [] e = refl
none_left (p ∷ ps) e =
    let some : 0 < all_nodes p.tree = some_nodes p.tree in
    let no : ⊥ = omega arith in
    absurd no

-- ---- Scribes that stand one behind the other

pub spread_more : (share : ℕ) (ps : List Piece) (xs : List Scribed) (x : Scribed) → AreSpread share ps xs → x.pending ≡ after_steps (share * length xs) ps
    → AreSpread share ps (xs ++ x ∷ [])
spread_more share ps [] x spread e = let none : share * 0 ≡ 0 = omega arith in (e ∙ ap (λ (n : ℕ). after_steps n ps) none, tt)
spread_more share ps (y ∷ ys) x spread e =
    let far : share * suc (length ys) ≡ share + share * length ys = omega (arith, mul-suc share (length ys)) in
    (spread.0, spread_more share (after_steps share ps) ys x spread.1 (e ∙ ap (λ (n : ℕ). after_steps n ps) far ∙ steps_add share (share * length ys) ps))

-- ---- The texts of one round

-- what a scribe did whose text was there
done : (v : Version) (share gap : ℕ) (x y : Scribed) (t : List ℕ) → HasTurned v share gap x y → y.text ≡ Some t
    → (pending_text v x.pending ≡ t ++ pending_text v (after_steps share x.pending)) × (y.pending ≡ after_steps gap (after_steps share x.pending))
done v share gap x y t h e =
    subst (λ (o : Option (List ℕ)). IfSome o (λ t. (pending_text v x.pending ≡ t ++ pending_text v (after_steps share x.pending))
    × (y.pending ≡ after_steps gap (after_steps share x.pending)))) e h

first_whole : (v : Version) (share gap : ℕ) (ps : List Piece) (x y : Scribed) (t texts rest : List ℕ) → x.pending ≡ ps → HasTurned v share gap x y → y.text ≡ Some t
    → pending_text v (after_steps share ps) ≡ texts ++ rest → pending_text v ps ≡ (t ++ texts) ++ rest
first_whole v share gap ps x y t texts rest e h s r =
    let first : pending_text v ps ≡ t ++ pending_text v (after_steps share ps) =
    subst (λ (q : List Piece). pending_text v q ≡ t ++ pending_text v (after_steps share q)) e (done v share gap x y t h s).0 in
    first ∙ ap (λ (l : List ℕ). t ++ l) r ∙ sym (append_assoc t texts rest)

first_on : (v : Version) (share gap : ℕ) (ps : List Piece) (x y : Scribed) (t : List ℕ) → x.pending ≡ ps → HasTurned v share gap x y → y.text ≡ Some t
    → y.pending ≡ after_steps (share + gap) ps
first_on v share gap ps x y t e h s =
    (done v share gap x y t h s).1 ∙ ap (λ (q : List Piece). after_steps gap (after_steps share q)) e ∙ sym (steps_add share gap ps)

-- what was taken is the text of all shares
texts_whole : (v : Version) (share gap : ℕ) (ps : List Piece) (xs ys : List Scribed) (ts : List (List ℕ)) → length ys ≡ length xs → length ts ≡ length ys
    → AreSpread share ps xs → ((i : ℕ) (d : Scribed) → i < length xs → HasTurned v share gap (get_or xs i d) (get_or ys i d)) → AreTaken ys ts
    → pending_text v ps ≡ joined ts ++ pending_text v (after_steps (share * length ys) ps)
texts_whole v share gap ps xs [] [] same count spread turned taken =
    let none : share * 0 ≡ 0 = omega arith in ap (λ (n : ℕ). pending_text v (after_steps n ps)) (sym none)
texts_whole v share gap ps xs [] (t ∷ ts) same count spread turned taken = let no : ⊥ = omega arith in absurd no
texts_whole v share gap ps [] (y ∷ ys) ts same count spread turned taken = let no : ⊥ = omega arith in absurd no
texts_whole v share gap ps (x ∷ xs) (y ∷ ys) [] same count spread turned taken = let no : ⊥ = omega arith in absurd no
texts_whole v share gap ps (x ∷ xs) (y ∷ ys) (t ∷ ts) same count spread turned taken =
    let more = texts_whole v share gap (after_steps share ps) xs ys ts (let w : length ys ≡ length xs = omega arith in w)
    (let w : length ts ≡ length ys = omega arith in w) spread.1
    (λ i d there. turned (suc i) d (let w : suc i < suc (length xs) = omega arith in w))
    (λ i d e there. taken (suc i) d e (let w : suc i < suc (length ys) = omega arith in w)) in
    let far : share + share * length ys ≡ share * suc (length ys) = omega (arith, mul-suc share (length ys)) in
    first_whole v share gap ps x y t (joined ts) (pending_text v (after_steps (share * suc (length ys)) ps)) spread.0
    (turned 0 x (let w : 0 < suc (length xs) = omega arith in w)) (taken 0 y t (let w : 0 < suc (length ys) = omega arith in w))
    (more ∙ ap (λ (q : List Piece). joined ts ++ pending_text v q) (sym (steps_add share (share * length ys) ps) ∙ ap (λ (n : ℕ). after_steps n ps) far))

pub round_whole : (v : Version) (share gap : ℕ) (ps : List Piece) (xs ys : List Scribed) (ts : List (List ℕ)) → length ys ≡ length xs → length ts ≡ length ys
    → share * length ys ≡ share + gap → AreSpread share ps xs
    → ((i : ℕ) (d : Scribed) → i < length xs → HasTurned v share gap (get_or xs i d) (get_or ys i d)) → AreTaken ys ts
    → pending_text v ps ≡ joined ts ++ pending_text v (after_steps (share + gap) ps)
round_whole v share gap ps xs ys ts same count far spread turned taken =
    texts_whole v share gap ps xs ys ts same count spread turned taken ∙ ap (λ (n : ℕ). joined ts ++ pending_text v (after_steps n ps)) far

-- and what is to come then is spread as it was
pub spread_on : (v : Version) (share gap : ℕ) (ps : List Piece) (xs ys : List Scribed) (ts : List (List ℕ)) → length ys ≡ length xs → length ts ≡ length ys
    → AreSpread share ps xs → ((i : ℕ) (d : Scribed) → i < length xs → HasTurned v share gap (get_or xs i d) (get_or ys i d)) → AreTaken ys ts
    → AreSpread share (after_steps (share + gap) ps) ys
spread_on v share gap ps xs [] ts same count spread turned taken = tt
spread_on v share gap ps [] (y ∷ ys) ts same count spread turned taken = let no : ⊥ = omega arith in absurd no
spread_on v share gap ps (x ∷ xs) (y ∷ ys) [] same count spread turned taken = let no : ⊥ = omega arith in absurd no
spread_on v share gap ps (x ∷ xs) (y ∷ ys) (t ∷ ts) same count spread turned taken =
    let more = spread_on v share gap (after_steps share ps) xs ys ts (let w : length ys ≡ length xs = omega arith in w)
    (let w : length ts ≡ length ys = omega arith in w) spread.1
    (λ i d there. turned (suc i) d (let w : suc i < suc (length xs) = omega arith in w))
    (λ i d e there. taken (suc i) d e (let w : suc i < suc (length ys) = omega arith in w)) in
    let turn : share + (share + gap) ≡ (share + gap) + share = omega arith in
    let next : after_steps (share + gap) (after_steps share ps) ≡ after_steps share (after_steps (share + gap) ps) =
    sym (steps_add share (share + gap) ps) ∙ ap (λ (n : ℕ). after_steps n ps) turn ∙ steps_add (share + gap) share ps in (
      first_on v share gap ps x y t spread.0 (turned 0 x (let w : 0 < suc (length xs) = omega arith in w)) (taken 0 y t (let w : 0 < suc (length ys) = omega arith in w)),
      subst (λ (q : List Piece). AreSpread share q ys) next more,
    )

-- scribes that stand where others stood are spread as they were
pub spread_still : (share : ℕ) (ps : List Piece) (ys zs : List Scribed) → length zs ≡ length ys → AreSpread share ps ys → AreStill ys zs → AreSpread share ps zs
spread_still share ps ys [] same spread still = tt
spread_still share ps [] (z ∷ zs) same spread still = let no : ⊥ = omega arith in absurd no
spread_still share ps (y ∷ ys) (z ∷ zs) same spread still = (
  still 0 y (let w : 0 < suc (length ys) = omega arith in w) ∙ spread.0,
  spread_still share (after_steps share ps) ys zs (let w : length zs ≡ length ys = omega arith in w) spread.1
      (λ i d there. still (suc i) d (let w : suc i < suc (length ys) = omega arith in w)),
)

pub turned : (v : Version) (share gap : ℕ) (old mid new : Scribed) → IfSome mid.text (λ t. AreWritten v share old.pending mid.pending t)
    → new.pending ≡ after_steps gap mid.pending → new.text ≡ mid.text → HasTurned v share gap old new
turned v share gap old mid new made come same =
    subst (λ (o : Option (List ℕ)). IfSome o (λ t. (pending_text v old.pending ≡ t ++ pending_text v (after_steps share old.pending))
    × (new.pending ≡ after_steps gap (after_steps share old.pending)))) (sym same)
    (IfSome_then mid.text made
    (λ t w. (w.text_is ∙ ap (λ (q : List Piece). t ++ pending_text v q) w.come, come ∙ ap (after_steps gap) w.come)))

-- ---- Handing texts over

pub texts_from : (ts : List (List ℕ)) (i : ℕ) (d t : List ℕ) → i < length ts → get_or ts i d ≡ t → joined (drop i ts) ≡ t ++ joined (drop (i + 1) ts)
texts_from ts i d t there e = ap joined (drop_more ts i d there) ∙ ap (λ (x : List ℕ). x ++ joined (drop (i + 1) ts)) e

-- ---- All rounds

pub lines_begin : (v : Version) (b : List Bounds) (t : Tree) → lines_of v b t ≡ [] ++ pending_text v (after_steps 0 (root_piece b t ∷ []))
lines_begin v b t = sym (append-nil (lines_of v b t))

pub lines_end : (v : Version) (b : List Bounds) (t : Tree) (at : ℕ) (sent : List ℕ) → all_nodes t ≤ at
    → lines_of v b t ≡ sent ++ pending_text v (after_steps at (root_piece b t ∷ [])) → lines_of v b t ≡ sent
lines_end v b t at sent past e =
    let left : to_come (after_steps at (root_piece b t ∷ [])) ≡ (all_nodes t + 0) - at = steps_left at (root_piece b t ∷ []) in
    let zero_left : to_come (after_steps at (root_piece b t ∷ [])) ≡ 0 = omega arith in
    e ∙ ap (λ (q : List Piece). sent ++ pending_text v q) (none_left (after_steps at (root_piece b t ∷ [])) zero_left) ∙ append-nil sent

-- one round more is handed over
pub round_sent : (v : Version) (at round : ℕ) (root : List Piece) (total sent texts : List ℕ) → total ≡ sent ++ pending_text v (after_steps at root)
    → pending_text v (after_steps at root) ≡ texts ++ pending_text v (after_steps round (after_steps at root))
    → total ≡ (sent ++ texts) ++ pending_text v (after_steps (at + round) root)
round_sent v at round root total sent texts e r =
    e ∙ ap (λ (l : List ℕ). sent ++ l) (r ∙ ap (λ (q : List Piece). texts ++ pending_text v q) (sym (steps_add at round root)))
    ∙ sym (append_assoc sent texts (pending_text v (after_steps (at + round) root)))

-- a front of a round's texts is handed over
pub round_front : (before mid after : Option (List ℕ)) (total sent texts rest pending : List ℕ) → mid ≡ appended before sent → total ≡ sent ++ pending
    → pending ≡ texts ++ rest → AppendsFront mid after texts → AppendsFront before after total
round_front before mid after total sent texts rest pending m e r front =
    held_front before mid after sent texts rest total m (e ∙ ap (λ (l : List ℕ). sent ++ l) r ∙ sym (append_assoc sent texts rest)) front
