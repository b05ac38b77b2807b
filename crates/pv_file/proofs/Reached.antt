-- How far a reading has come: what was read is the beginning of each text whose tree fills the open leaves to come, and of no other.
use Rattle.std.proofs.Common.{◌≡◌, ℕ, zero, suc, ◌+◌, ◌<◌, ◌≤◌, List, [], ◌∷◌, ◌++◌, length, Option, Some, refl, sym, ◌∙◌, ap, subst, arith, append_assoc, append-nil, length-append}
use Rattle.std.proofs.lemmas.List.{append_cancel_left}
use Rattle.pv_interval.specs.Bounds.{Bounds}
use Rattle.pv_box.specs.Boxes.{IsBox}
use Rattle.pv_tree.specs.Trees.{Tree, leaf, top, subtree}
use Rattle.pv_tree.specs.Holes.{Hole, Growing, growth_over, fill}
use Rattle.pv_tree.specs.declared.outcome.Outcome.{Outcome}
use Rattle.pv_file.specs.declared.version.Version.{Version}
use Rattle.pv_file.specs.Lines.{top_line, lines_of, node_line_with, kept_text}
use Rattle.pv_file.specs.Readings.{IsFree, AreLines, BeginAlike, IsPavingInFormat, settled_count}
use Rattle.pv_file.specs.Reading.{IsLineOf, IsStep, IsStuck, IsFull, IsBadBody, IsManyBody, holes_after, tree_after, count_of}
use Rattle.pv_file.proofs.Steps.{same_line}
use Rattle.pv_file.proofs.Bytes.{no_cons}
use Rattle.pv_file.proofs.Fits.{FitsHole, FitHoles, AreShort, kids, holes_text, settled_in, fill_step, text_step, fit_down, right_top, Lifted, fit_up, count_step, shorts_after, leaves, fit_leaves, count_leaves, line_free}

-- Trees fill the open leaves of a tree that is known so far.
pub record Filled (b : List Bounds) (tree : Tree) (holes : List Hole) (t : Tree) : Type 0 where
  pub trees : List Tree
  pub fit : FitHoles holes trees
  pub is : t ≡ fill tree holes trees

-- What holds of each way to fill the open leaves.
pub record Fills (v : Version) (b : List Bounds) (front : List ℕ) (tree : Tree) (holes : List Hole) (count : ℕ) (trees : List Tree) : Type 0 where
  pub paving : IsPavingInFormat b (fill tree holes trees)
  pub text : lines_of v b (fill tree holes trees) ≡ front ++ holes_text v holes trees
  pub settled : settled_count (fill tree holes trees) ≡ count + settled_in trees

pub record IsReached (v : Version) (b : List Bounds) (body rest : List ℕ) (tree : Tree) (holes : List Hole) (read count : ℕ) : Type 0 where
  pub front : List ℕ
  pub lines : AreLines read front
  pub text : body ≡ front ++ rest
  pub shorts : AreShort holes
  pub forth : (trees : List Tree) → FitHoles holes trees → Fills v b front tree holes count trees
  pub back : (t : Tree) (more : List ℕ) → IsPavingInFormat b t → lines_of v b t ≡ front ++ more → Filled b tree holes t

-- ---- Lines behind lines

pub lines_more : (n : ℕ) (front line : List ℕ) → AreLines n front → IsFree 10 line → AreLines (suc n) (front ++ (line ++ 10 ∷ []))
lines_more zero front line a f = (line, [], ap (λ (x : List ℕ). x ++ (line ++ 10 ∷ [])) a, f, refl)
lines_more (suc n) front line a f =
    (a.0, a.1 ++ (line ++ 10 ∷ []), ap (λ (x : List ℕ). x ++ (line ++ 10 ∷ [])) a.2 ∙ append_assoc a.0 (10 ∷ a.1) (line ++ 10 ∷ []), a.3, lines_more n a.1 line a.4 f)

-- One line more than the lines that are known.
pub record NextLine (front behind all more : List ℕ) : Type 0 where
  pub line : List ℕ
  pub free : IsFree 10 line
  pub lines : all ≡ front ++ (line ++ 10 ∷ [])
  pub rest : behind ≡ line ++ 10 ∷ more

first_line : (rest lines more a r : List ℕ) → lines ≡ a ++ 10 ∷ r → r ≡ [] → IsFree 10 a → rest ≡ lines ++ more → NextLine [] rest lines more
first_line rest lines more a r e z f t = record {
  line = a;
  free = f;
  lines = e ∙ ap (λ (x : List ℕ). a ++ 10 ∷ x) z;
  rest = t ∙ ap (λ (x : List ℕ). x ++ more) (e ∙ ap (λ (x : List ℕ). a ++ 10 ∷ x) z) ∙ append_assoc a (10 ∷ []) more;
}

pub next_line : (n : ℕ) (body front rest lines more : List ℕ) → AreLines n front → body ≡ front ++ rest → AreLines (suc n) lines → body ≡ lines ++ more
    → NextLine front rest lines more
next_line zero body front rest lines more a e b f =
    let whole : rest ≡ lines ++ more = sym (e ∙ ap (λ (x : List ℕ). x ++ rest) a) ∙ f in
    subst (λ (x : List ℕ). NextLine x rest lines more) (sym a) (first_line rest lines more b.0 b.1 b.2 b.4 b.3 whole)
next_line (suc n) body front rest lines more a e b f =
    let one : body ≡ a.0 ++ 10 ∷ (a.1 ++ rest) = e ∙ ap (λ (x : List ℕ). x ++ rest) a.2 ∙ append_assoc a.0 (10 ∷ a.1) rest in
    let two : body ≡ b.0 ++ 10 ∷ (b.1 ++ more) = f ∙ ap (λ (x : List ℕ). x ++ more) b.2 ∙ append_assoc b.0 (10 ∷ b.1) more in
    let same = same_line body a.0 b.0 (a.1 ++ rest) (b.1 ++ more) a.3 b.3 one two in
    let next = next_line n (a.1 ++ rest) a.1 rest b.1 more a.4 refl b.4 same.1 in record {
      line = next.line;
      free = next.free;
      lines = b.2 ∙ ap (λ (x : List ℕ). x ++ 10 ∷ b.1) (sym same.0) ∙ ap (λ (x : List ℕ). a.0 ++ 10 ∷ x) next.lines
          ∙ sym (append_assoc a.0 (10 ∷ a.1) (next.line ++ 10 ∷ [])) ∙ ap (λ (x : List ℕ). x ++ (next.line ++ 10 ∷ [])) (sym a.2);
      rest = next.rest;
    }

-- ---- The beginning

begun_fills : (v : Version) (b : List Bounds) → IsBox b → (trees : List Tree) → FitHoles (record { path = []; box = b } ∷ []) trees
    → Fills v b [] leaf (record { path = []; box = b } ∷ []) 0 trees
begun_fills v b box [] fit = absurd fit
begun_fills v b box (s ∷ []) fit = record {
  paving = record { paving = record { box = box; paves = fit.0.paves; depth = omega (arith, fit.0.depth) }; numbers = fit.0.numbers };
  text = sym (append-nil (lines_of v b s));
  settled = omega arith;
}
begun_fills v b box (s ∷ (t ∷ ss)) fit = absurd fit.1

pub begun : (v : Version) (b : List Bounds) (body : List ℕ) → IsBox b → IsReached v b body body leaf (record { path = []; box = b } ∷ []) 0 0
begun v b body box = record {
  front = [];
  lines = refl;
  text = refl;
  shorts = (omega arith, tt);
  forth = λ trees fit. begun_fills v b box trees fit;
  back = λ t more paving e. record {
    trees = t ∷ [];
    fit = (record { paves = paving.paving.paves; numbers = paving.numbers; depth = omega (arith, paving.paving.depth) }, tt);
    is = refl;
  };
}

-- ---- One line further

text_further : (whole front top line rest : List ℕ) → whole ≡ front ++ ((top ++ 10 ∷ []) ++ rest) → top ≡ line → whole ≡ (front ++ (line ++ 10 ∷ [])) ++ rest
text_further whole front top line rest e f =
    e ∙ sym (append_assoc front (top ++ 10 ∷ []) rest) ∙ ap (λ (x : List ℕ). (front ++ (x ++ 10 ∷ [])) ++ rest) f

further_count : (count one below whole : ℕ) → whole ≡ one + below → count + whole ≡ (count + one) + below
further_count count one below whole e = omega (arith, e)

pub filled_further : (v : Version) (b : List Bounds) (front : List ℕ) (tree : Tree) (hole : Hole) (holes : List Hole) (q : Option Outcome) (line : List ℕ) (count : ℕ) (below : List Tree)
    → subtree tree hole.path ≡ Some leaf → length hole.path ≤ 200 → IsLineOf v hole line q
    → ((trees : List Tree) → FitHoles (hole ∷ holes) trees → Fills v b front tree (hole ∷ holes) count trees)
    → FitHoles (holes_after hole q ++ holes) below → Fills v b (front ++ (line ++ 10 ∷ [])) (tree_after tree hole q) (holes_after hole q ++ holes) (count + count_of q) below
filled_further v b front tree hole holes q line count below is_leaf short is forth fit =
    let up : Lifted hole holes q below = fit_up hole holes q below short is.right fit in
    let old : Fills v b front tree (hole ∷ holes) count (up.tree ∷ up.others) = forth (up.tree ∷ up.others) (up.fits, up.fit) in
    let same : fill tree (hole ∷ holes) (up.tree ∷ up.others) ≡ fill (tree_after tree hole q) (holes_after hole q ++ holes) below =
    fill_step tree hole holes up.tree up.others is_leaf
    ∙ ap (λ (o : Option Outcome). fill (tree_after tree hole o) (holes_after hole o ++ holes) (kids up.tree ++ up.others)) up.is_top
    ∙ ap (fill (tree_after tree hole q) (holes_after hole q ++ holes)) (sym up.are) in
    let below_text : holes_text v (holes_after hole (top up.tree) ++ holes) (kids up.tree ++ up.others) ≡ holes_text v (holes_after hole q ++ holes) below =
    ap (λ (o : Option Outcome). holes_text v (holes_after hole o ++ holes) (kids up.tree ++ up.others)) up.is_top
    ∙ ap (holes_text v (holes_after hole q ++ holes)) (sym up.are) in
    let top_is : top_line v hole.box up.tree ≡ line = ap (node_line_with (kept_text v hole.box)) up.is_top ∙ sym is.text in
    let counts : settled_in (up.tree ∷ up.others) ≡ count_of q + settled_in below =
    count_step up.tree up.others ∙ ap (λ (o : Option Outcome). count_of o + settled_in (kids up.tree ++ up.others)) up.is_top
    ∙ ap (λ (x : List Tree). count_of q + settled_in x) (sym up.are) in record {
      paving = subst (λ (t : Tree). IsPavingInFormat b t) same old.paving;
      text = ap (lines_of v b) (sym same)
          ∙ text_further _ front (top_line v hole.box up.tree) line _ (old.text ∙ ap (λ (x : List ℕ). front ++ x) (text_step v hole holes up.tree up.others)) top_is
          ∙ ap (λ (x : List ℕ). (front ++ (line ++ 10 ∷ [])) ++ x) below_text;
      settled = ap settled_count (sym same) ∙ old.settled ∙ further_count count (count_of q) (settled_in below) _ counts;
    }

-- The node that stands at the next hole of a tree whose text goes on with a line.
pub record AtLine (v : Version) (tree : Tree) (hole : Hole) (holes : List Hole) (line more : List ℕ) (t : Tree) : Type 0 where
  pub node : Tree
  pub others : List Tree
  pub fits : FitsHole hole node
  pub fit : FitHoles holes others
  pub is : t ≡ fill tree (hole ∷ holes) (node ∷ others)
  pub says : line ≡ node_line_with (kept_text v hole.box) (top node)
  pub rest : more ≡ holes_text v (holes_after hole (top node) ++ holes) (kids node ++ others)

at_nodes : (v : Version) (tree : Tree) (hole : Hole) (holes : List Hole) (line more : List ℕ) (t : Tree) (trees : List Tree) → IsFree 10 line → FitHoles (hole ∷ holes) trees
    → t ≡ fill tree (hole ∷ holes) trees → holes_text v (hole ∷ holes) trees ≡ line ++ 10 ∷ more → AtLine v tree hole holes line more t
at_nodes v tree hole holes line more t [] free fit is e = absurd fit
at_nodes v tree hole holes line more t (s ∷ ss) free fit is e =
    let top_free : IsFree 10 (top_line v hole.box s) = line_free v hole.path hole.box (top s) (right_top hole s fit.0) in
    let step : holes_text v (hole ∷ holes) (s ∷ ss) ≡ top_line v hole.box s ++ 10 ∷ holes_text v (holes_after hole (top s) ++ holes) (kids s ++ ss) =
    text_step v hole holes s ss ∙ append_assoc (top_line v hole.box s) (10 ∷ []) _ in
    let same = same_line (holes_text v (hole ∷ holes) (s ∷ ss)) line (top_line v hole.box s) more _ free top_free e step in record {
      node = s;
      others = ss;
      fits = fit.0;
      fit = fit.1;
      is = is;
      says = same.0;
      rest = same.1;
    }

pub at_line : (v : Version) (b : List Bounds) (body rest : List ℕ) (tree : Tree) (hole : Hole) (holes : List Hole) (read count : ℕ) (line more : List ℕ) (t : Tree)
    → (r : IsReached v b body rest tree (hole ∷ holes) read count) → IsFree 10 line → IsPavingInFormat b t → lines_of v b t ≡ r.front ++ (line ++ 10 ∷ more)
    → AtLine v tree hole holes line more t
at_line v b body rest tree hole holes read count line more t r free paving e =
    let known : Filled b tree (hole ∷ holes) t = r.back t (line ++ 10 ∷ more) paving e in
    let text : lines_of v b t ≡ r.front ++ holes_text v (hole ∷ holes) known.trees = ap (lines_of v b) known.is ∙ (r.forth known.trees known.fit).text in
    at_nodes v tree hole holes line more t known.trees free known.fit known.is (append_cancel_left r.front _ _ (sym text ∙ e))

back_further : (v : Version) (b : List Bounds) (body rest : List ℕ) (tree : Tree) (hole : Hole) (holes : List Hole) (read count : ℕ) (q : Option Outcome) (line : List ℕ) (t : Tree) (more : List ℕ)
    → (r : IsReached v b body rest tree (hole ∷ holes) read count) → subtree tree hole.path ≡ Some leaf → IsFree 10 line → IsLineOf v hole line q
    → IsPavingInFormat b t → lines_of v b t ≡ (r.front ++ (line ++ 10 ∷ [])) ++ more → Filled b (tree_after tree hole q) (holes_after hole q ++ holes) t
back_further v b body rest tree hole holes read count q line t more r is_leaf free is paving e =
    let whole : lines_of v b t ≡ r.front ++ (line ++ 10 ∷ more) =
    e ∙ append_assoc r.front (line ++ 10 ∷ []) more ∙ ap (λ (x : List ℕ). r.front ++ x) (append_assoc line (10 ∷ []) more) in
    let at : AtLine v tree hole holes line more t = at_line v b body rest tree hole holes read count line more t r free paving whole in
    let same : top at.node ≡ q = is.only (top at.node) (right_top hole at.node at.fits) at.says in record {
      trees = kids at.node ++ at.others;
      fit = subst (λ (o : Option Outcome). FitHoles (holes_after hole o ++ holes) (kids at.node ++ at.others)) same (fit_down hole holes at.node at.others at.fits at.fit);
      is = at.is ∙ fill_step tree hole holes at.node at.others is_leaf
          ∙ ap (λ (o : Option Outcome). fill (tree_after tree hole o) (holes_after hole o ++ holes) (kids at.node ++ at.others)) same;
    }

further : (v : Version) (b : List Bounds) (body rest : List ℕ) (tree : Tree) (hole : Hole) (holes : List Hole) (read count : ℕ) (q : Option Outcome) (line more : List ℕ)
    → IsReached v b body rest tree (hole ∷ holes) read count → subtree tree hole.path ≡ Some leaf → IsFree 10 line → IsLineOf v hole line q → rest ≡ line ++ 10 ∷ more
    → IsReached v b body more (tree_after tree hole q) (holes_after hole q ++ holes) (suc read) (count + count_of q)
further v b body rest tree hole holes read count q line more r is_leaf free is e = record {
  front = r.front ++ (line ++ 10 ∷ []);
  lines = lines_more read r.front line r.lines free;
  text = r.text ∙ ap (λ (x : List ℕ). r.front ++ x) e ∙ ap (λ (x : List ℕ). r.front ++ x) (sym (append_assoc line (10 ∷ []) more)) ∙ sym (append_assoc r.front (line ++ 10 ∷ []) more);
  shorts = shorts_after hole holes q is.right r.shorts.1;
  forth = λ below fit. filled_further v b r.front tree hole holes q line count below is_leaf r.shorts.0 is r.forth fit;
  back = λ t rest' paving f. back_further v b body rest tree hole holes read count q line t rest' r is_leaf free is paving f;
}

pub stepped : (v : Version) (b : List Bounds) (body rest more : List ℕ) (old new : Growing) (read count total : ℕ) → IsReached v b body rest old.tree old.holes read count
    → IsStep v old new rest more count total → IsReached v b body more new.tree new.holes (suc read) total
stepped v b body rest more old new read count total r s =
    let here : IsReached v b body rest old.tree (s.hole ∷ s.others) read count = subst (λ (hs : List Hole). IsReached v b body rest old.tree hs read count) s.was r in
    let next = further v b body rest old.tree s.hole s.others read count s.node s.line more here s.is_leaf s.free s.is_line s.text in
    subst (λ (n : ℕ). IsReached v b body more new.tree new.holes (suc read) n) (sym s.counted)
    (subst (λ (hs : List Hole). IsReached v b body more new.tree hs (suc read) (count + count_of s.node)) (sym s.holes)
    (subst (λ (t : Tree). IsReached v b body more t (holes_after s.hole s.node ++ s.others) (suc read) (count + count_of s.node)) (sym s.tree) next))

-- ---- Where a reading ends

-- The leaves to come are left open.
pub record OpenEnd (limit : ℕ) (v : Version) (b : List Bounds) (body : List ℕ) (read : ℕ) : Type 0 where
  pub tree : Tree
  pub paving : IsPavingInFormat b tree
  pub few : settled_count tree ≤ limit
  pub alike : BeginAlike read body (lines_of v b tree)

few_open : (limit whole count none : ℕ) → whole ≡ count + none → none ≡ 0 → count ≤ limit → whole ≤ limit
few_open limit whole count none e z f = omega (arith, e, z, f)

pub open_end : (limit : ℕ) (v : Version) (b : List Bounds) (body rest : List ℕ) (tree : Tree) (holes : List Hole) (read count : ℕ) → IsReached v b body rest tree holes read count → count ≤ limit
    → OpenEnd limit v b body read
open_end limit v b body rest tree holes read count r few =
    let known : Fills v b r.front tree holes count (leaves holes) = r.forth (leaves holes) (fit_leaves holes r.shorts) in record {
      tree = fill tree holes (leaves holes);
      paving = known.paving;
      few = few_open limit _ count (settled_in (leaves holes)) known.settled (count_leaves holes) few;
      alike = record { lines = r.front; bytes_rest = rest; text_rest = holes_text v holes (leaves holes); are_lines = r.lines; bytes_are = r.text; text_is = known.text };
    }

-- A text that goes on as the bytes do, by one line.
pub record GoesOn (v : Version) (b : List Bounds) (rest front : List ℕ) (t : Tree) : Type 0 where
  pub line : List ℕ
  pub more : List ℕ
  pub other : List ℕ
  pub free : IsFree 10 line
  pub bytes : rest ≡ line ++ 10 ∷ more
  pub text : lines_of v b t ≡ front ++ (line ++ 10 ∷ other)

pub goes_on : (v : Version) (b : List Bounds) (body rest : List ℕ) (tree : Tree) (holes : List Hole) (read count : ℕ) (t : Tree) → (r : IsReached v b body rest tree holes read count)
    → BeginAlike (suc read) body (lines_of v b t) → GoesOn v b rest r.front t
goes_on v b body rest tree holes read count t r a =
    let next : NextLine r.front rest a.lines a.bytes_rest = next_line read body r.front rest a.lines a.bytes_rest r.lines r.text a.are_lines a.bytes_are in record {
      line = next.line;
      more = a.bytes_rest;
      other = a.text_rest;
      free = next.free;
      bytes = next.rest;
      text = a.text_is ∙ ap (λ (x : List ℕ). x ++ a.text_rest) next.lines ∙ append_assoc r.front (next.line ++ 10 ∷ []) a.text_rest
          ∙ ap (λ (x : List ℕ). r.front ++ x) (append_assoc next.line (10 ∷ []) a.text_rest);
    }

-- ---- A line that is no node's

pub stuck_bad : (limit : ℕ) (v : Version) (b : List Bounds) (body rest : List ℕ) (g : Growing) (read count n : ℕ) → IsReached v b body rest g.tree g.holes read count → count ≤ limit
    → IsStuck v g rest → n ≡ read + 3 → IsBadBody limit v b body n
stuck_bad limit v b body rest g read count n r few stuck e =
    let here : IsReached v b body rest g.tree (stuck.hole ∷ stuck.others) read count = subst (λ (hs : List Hole). IsReached v b body rest g.tree hs read count) stuck.was r in
    let end : OpenEnd limit v b body read = open_end limit v b body rest g.tree g.holes read count r few in record {
      before = read;
      next = e;
      tree = end.tree;
      paving = end.paving;
      few = end.few;
      alike = end.alike;
      bad = λ t paving alike.
          let on = goes_on v b body rest g.tree (stuck.hole ∷ stuck.others) read count t here alike in
          let at = at_line v b body rest g.tree stuck.hole stuck.others read count on.line on.other t here on.free paving on.text in
          stuck.none on.line on.more (top at.node) on.free on.bytes (right_top stuck.hole at.node at.fits) at.says;
    }

-- The node that stands at the next hole of a tree whose text the bytes are.
pub record AtBytes (v : Version) (tree : Tree) (hole : Hole) (holes : List Hole) (rest : List ℕ) (t : Tree) : Type 0 where
  pub line : List ℕ
  pub more : List ℕ
  pub free : IsFree 10 line
  pub bytes : rest ≡ line ++ 10 ∷ more
  pub at : AtLine v tree hole holes line more t

bytes_nodes : (v : Version) (tree : Tree) (hole : Hole) (holes : List Hole) (rest : List ℕ) (t : Tree) (trees : List Tree) → FitHoles (hole ∷ holes) trees
    → t ≡ fill tree (hole ∷ holes) trees → rest ≡ holes_text v (hole ∷ holes) trees → AtBytes v tree hole holes rest t
bytes_nodes v tree hole holes rest t [] fit is e = absurd fit
bytes_nodes v tree hole holes rest t (s ∷ ss) fit is e =
    let top_free : IsFree 10 (top_line v hole.box s) = line_free v hole.path hole.box (top s) (right_top hole s fit.0) in
    let step : holes_text v (hole ∷ holes) (s ∷ ss) ≡ top_line v hole.box s ++ 10 ∷ holes_text v (holes_after hole (top s) ++ holes) (kids s ++ ss) =
    text_step v hole holes s ss ∙ append_assoc (top_line v hole.box s) (10 ∷ []) _ in record {
      line = top_line v hole.box s;
      more = holes_text v (holes_after hole (top s) ++ holes) (kids s ++ ss);
      free = top_free;
      bytes = e ∙ step;
      at = at_nodes v tree hole holes (top_line v hole.box s) _ t (s ∷ ss) top_free fit is step;
    }

whole_text : (v : Version) (b : List Bounds) (body rest : List ℕ) (tree : Tree) (holes : List Hole) (read count : ℕ) (t : Tree) → (r : IsReached v b body rest tree holes read count)
    → body ≡ lines_of v b t → lines_of v b t ≡ r.front ++ rest
whole_text v b body rest tree holes read count t r e = sym e ∙ r.text

at_bytes : (v : Version) (b : List Bounds) (body rest : List ℕ) (tree : Tree) (hole : Hole) (holes : List Hole) (read count : ℕ) (t : Tree)
    → IsReached v b body rest tree (hole ∷ holes) read count → IsPavingInFormat b t → body ≡ lines_of v b t → AtBytes v tree hole holes rest t
at_bytes v b body rest tree hole holes read count t r paving e =
    let whole : lines_of v b t ≡ r.front ++ rest = whole_text v b body rest tree (hole ∷ holes) read count t r e in
    let known : Filled b tree (hole ∷ holes) t = r.back t rest paving whole in
    let text : lines_of v b t ≡ r.front ++ holes_text v (hole ∷ holes) known.trees = ap (lines_of v b) known.is ∙ (r.forth known.trees known.fit).text in
    bytes_nodes v tree hole holes rest t known.trees known.fit known.is (append_cancel_left r.front _ _ (sym whole ∙ text))

pub stuck_none : (v : Version) (b : List Bounds) (body rest : List ℕ) (g : Growing) (read count : ℕ) (t : Tree) → IsReached v b body rest g.tree g.holes read count
    → IsStuck v g rest → IsPavingInFormat b t → body ≡ lines_of v b t → ⊥
stuck_none v b body rest g read count t r stuck paving e =
    let here : IsReached v b body rest g.tree (stuck.hole ∷ stuck.others) read count = subst (λ (hs : List Hole). IsReached v b body rest g.tree hs read count) stuck.was r in
    let known = at_bytes v b body rest g.tree stuck.hole stuck.others read count t here paving e in
    stuck.none known.line known.more (top known.at.node) known.free known.bytes (right_top stuck.hole known.at.node known.at.fits) known.at.says

-- ---- One settled node too many

too_many : (limit whole count one below kinds : ℕ) → whole ≡ count + kinds → kinds ≡ one + below → one ≡ 1 → count ≡ limit → limit < whole
too_many limit whole count one below kinds e f g h = omega (arith, e, f, g, h)

count_some : (q : Option Outcome) (o : Outcome) → q ≡ Some o → count_of q ≡ 1
count_some q o e = ap count_of e

many_at : (limit : ℕ) (v : Version) (b : List Bounds) (body rest : List ℕ) (tree : Tree) (hole : Hole) (holes : List Hole) (read count : ℕ) (line more : List ℕ) (o : Outcome) (t : Tree)
    → IsReached v b body rest tree (hole ∷ holes) read count → IsLineOf v hole line (Some o) → AtLine v tree hole holes line more t → count ≡ limit → limit < settled_count t
many_at limit v b body rest tree hole holes read count line more o t r is at full =
    let known = r.forth (at.node ∷ at.others) (at.fits, at.fit) in
    let same : top at.node ≡ Some o = is.only (top at.node) (right_top hole at.node at.fits) at.says in
    too_many limit (settled_count t) count (count_of (top at.node)) (settled_in (kids at.node ++ at.others)) (settled_in (at.node ∷ at.others))
    (ap settled_count at.is ∙ known.settled) (count_step at.node at.others) (count_some (top at.node) o same) full

pub full_none : (limit : ℕ) (v : Version) (b : List Bounds) (body rest : List ℕ) (g : Growing) (read count : ℕ) (t : Tree) → IsReached v b body rest g.tree g.holes read count
    → IsFull limit v g rest count → IsPavingInFormat b t → settled_count t ≤ limit → body ≡ lines_of v b t → ⊥
full_none limit v b body rest g read count t r full paving few e =
    let here : IsReached v b body rest g.tree (full.hole ∷ full.others) read count = subst (λ (hs : List Hole). IsReached v b body rest g.tree hs read count) full.was r in
    let known = at_bytes v b body rest g.tree full.hole full.others read count t here paving e in
    let same = same_line rest full.line known.line full.more known.more full.free known.free full.text known.bytes in
    let at : AtLine v g.tree full.hole full.others full.line known.more t =
    subst (λ (l : List ℕ). AtLine v g.tree full.hole full.others l known.more t) (sym same.0) known.at in
    let many : limit < settled_count t = many_at limit v b body rest g.tree full.hole full.others read count full.line known.more full.outcome t here full.is_line at full.full in
    omega (arith, many, few)

-- A larger tree, in which the next leaf is settled as the line says.
pub record Larger (v : Version) (b : List Bounds) (body : List ℕ) (read : ℕ) : Type 0 where
  pub tree : Tree
  pub paving : IsPavingInFormat b tree
  pub alike : BeginAlike (suc read) body (lines_of v b tree)

larger_of : (v : Version) (b : List Bounds) (body rest : List ℕ) (tree : Tree) (holes : List Hole) (read count : ℕ) → IsReached v b body rest tree holes (suc read) count → Larger v b body read
larger_of v b body rest tree holes read count r =
    let known : Fills v b r.front tree holes count (leaves holes) = r.forth (leaves holes) (fit_leaves holes r.shorts) in record {
      tree = fill tree holes (leaves holes);
      paving = known.paving;
      alike = record { lines = r.front; bytes_rest = rest; text_rest = holes_text v holes (leaves holes); are_lines = r.lines; bytes_are = r.text; text_is = known.text };
    }

pub full_many : (limit : ℕ) (v : Version) (b : List Bounds) (body rest : List ℕ) (g : Growing) (read count n : ℕ) → IsReached v b body rest g.tree g.holes read count → count ≤ limit
    → IsFull limit v g rest count → n ≡ read + 3 → IsManyBody limit v b body n
full_many limit v b body rest g read count n r few full e =
    let here : IsReached v b body rest g.tree (full.hole ∷ full.others) read count = subst (λ (hs : List Hole). IsReached v b body rest g.tree hs read count) full.was r in
    let end : OpenEnd limit v b body read = open_end limit v b body rest g.tree g.holes read count r few in
    let large = larger_of v b body full.more _ _ read _ (further v b body rest g.tree full.hole full.others read count (Some full.outcome) full.line full.more here full.is_leaf full.free full.is_line full.text) in record {
      before = read;
      next = e;
      tree = end.tree;
      paving = end.paving;
      few = end.few;
      alike = end.alike;
      large = large.tree;
      large_paving = large.paving;
      large_alike = large.alike;
      many = λ t paving alike.
          let on = goes_on v b body rest g.tree (full.hole ∷ full.others) read count t here alike in
          let same = same_line rest full.line on.line full.more on.more full.free on.free full.text on.bytes in
          let text : lines_of v b t ≡ here.front ++ (full.line ++ 10 ∷ on.other) = on.text ∙ ap (λ (x : List ℕ). here.front ++ (x ++ 10 ∷ on.other)) (sym same.0) in
          let at = at_line v b body rest g.tree full.hole full.others read count full.line on.other t here full.free paving text in
          many_at limit v b body rest g.tree full.hole full.others read count full.line on.other full.outcome t here full.is_line at full.full;
    }

-- ---- No leaf is to come

no_trees : (tree t : Tree) (trees : List Tree) → FitHoles [] trees → t ≡ fill tree [] trees → t ≡ tree
no_trees tree t [] fit is = is
no_trees tree t (s ∷ ss) fit is = absurd fit

-- The one tree, and its text.
pub whole_tree : (v : Version) (b : List Bounds) (body rest : List ℕ) (tree t : Tree) (read count : ℕ) (more : List ℕ) → (r : IsReached v b body rest tree [] read count)
    → IsPavingInFormat b t → lines_of v b t ≡ r.front ++ more → (t ≡ tree) × (more ≡ [])
whole_tree v b body rest tree t read count more r paving e =
    let known = r.back t more paving e in
    let same : t ≡ tree = no_trees tree t known.trees known.fit known.is in
    (same, append_cancel_left r.front more [] (sym e ∙ ap (lines_of v b) same ∙ (r.forth [] tt).text))

no_more : (line other : List ℕ) → line ++ 10 ∷ other ≡ [] → ⊥
no_more [] other e = no_cons 10 other (sym e)
no_more (c ∷ cs) other e = no_cons c (cs ++ 10 ∷ other) (sym e)

pub trailing_bad : (limit : ℕ) (v : Version) (b : List Bounds) (body rest : List ℕ) (tree : Tree) (read count n : ℕ) → IsReached v b body rest tree [] read count → count ≤ limit → n ≡ read + 3
    → IsBadBody limit v b body n
trailing_bad limit v b body rest tree read count n r few e =
    let end : OpenEnd limit v b body read = open_end limit v b body rest tree [] read count r few in record {
      before = read;
      next = e;
      tree = end.tree;
      paving = end.paving;
      few = end.few;
      alike = end.alike;
      bad = λ t paving alike.
          let on = goes_on v b body rest tree [] read count t r alike in
          no_more on.line on.other (whole_tree v b body rest tree t read count (on.line ++ 10 ∷ on.other) r paving on.text).1;
    }

pub trailing_none : (v : Version) (b : List Bounds) (body rest : List ℕ) (tree t : Tree) (read count : ℕ) → IsReached v b body rest tree [] read count → IsPavingInFormat b t
    → body ≡ lines_of v b t → rest ≡ []
trailing_none v b body rest tree t read count r paving e =
    (whole_tree v b body rest tree t read count rest r paving (whole_text v b body rest tree [] read count t r e)).1

pub done_tree : (v : Version) (b : List Bounds) (body rest : List ℕ) (tree t : Tree) (read count : ℕ) → IsReached v b body rest tree [] read count → IsPavingInFormat b t
    → body ≡ lines_of v b t → t ≡ tree
done_tree v b body rest tree t read count r paving e =
    (whole_tree v b body rest tree t read count rest r paving (whole_text v b body rest tree [] read count t r e)).0

pub done_text : (v : Version) (b : List Bounds) (body rest : List ℕ) (tree : Tree) (read count : ℕ) → IsReached v b body rest tree [] read count → rest ≡ [] → body ≡ lines_of v b tree
done_text v b body rest tree read count r e = r.text ∙ ap (λ (x : List ℕ). r.front ++ x) e ∙ sym (r.forth [] tt).text

pub done_paving : (v : Version) (b : List Bounds) (body rest : List ℕ) (tree : Tree) (read count : ℕ) → IsReached v b body rest tree [] read count → IsPavingInFormat b tree
done_paving v b body rest tree read count r = (r.forth [] tt).paving

pub done_few : (limit : ℕ) (v : Version) (b : List Bounds) (body rest : List ℕ) (tree : Tree) (read count : ℕ) → IsReached v b body rest tree [] read count → count ≤ limit → settled_count tree ≤ limit
done_few limit v b body rest tree read count r few = few_open limit (settled_count tree) count 0 (r.forth [] tt).settled refl few

pub no_holes : (v : Version) (b : List Bounds) (body rest : List ℕ) (tree : Tree) (holes : List Hole) (read count : ℕ) → holes ≡ [] → IsReached v b body rest tree holes read count
    → IsReached v b body rest tree [] read count
no_holes v b body rest tree holes read count e r = subst (λ (hs : List Hole). IsReached v b body rest tree hs read count) e r

-- ---- How many lines

pub few_lines : (n : ℕ) (front : List ℕ) → AreLines n front → n ≤ length front
few_lines zero front a = omega arith
few_lines (suc n) front a =
    let rest : n ≤ length a.1 = few_lines n a.1 a.4 in
    let whole : length front ≡ length (a.0 ++ 10 ∷ a.1) = ap length a.2 in
    let parts : length (a.0 ++ 10 ∷ a.1) ≡ length a.0 + suc (length a.1) = length-append a.0 (10 ∷ a.1) in
    omega (arith, rest, whole, parts)

pub read_few : (v : Version) (b : List Bounds) (body rest : List ℕ) (tree : Tree) (holes : List Hole) (read count : ℕ) → IsReached v b body rest tree holes read count → read ≤ length body
read_few v b body rest tree holes read count r =
    let lines : read ≤ length r.front = few_lines read r.front r.lines in
    let whole : length body ≡ length (r.front ++ rest) = ap length r.text in
    let parts : length (r.front ++ rest) ≡ length r.front + length rest = length-append r.front rest in
    omega (arith, lines, whole, parts)

pub begun_at : (v : Version) (b bx : List Bounds) (body : List ℕ) (g : Growing) → g ≡ growth_over bx → bx ≡ b → IsBox b → IsReached v b body body g.tree g.holes 0 0
begun_at v b bx body g e f box =
    let is : growth_over b ≡ g = sym (e ∙ ap growth_over f) in
    subst (λ (x : Growing). IsReached v b body body x.tree x.holes 0 0) is (begun v b body box)
