-- The leaf that a growth settles next.
use Rattle.std.proofs.Common.{◌<◌, List, Bool, length, subst, sym}
use Rattle.pv_interval.specs.Bounds.{Bounds}
use Rattle.pv_tree.specs.Trees.{Fits, HasDepth}
use Rattle.pv_tree.specs.Holes.{Growing, Hole, Takes, IsNext, IsFirstBox}
use Rattle.pv_tree.specs.declared.outcome.Outcome.{Outcome}
use Rattle.std.proofs.Common.{arith}
use Rattle.pv_tree.proofs.KnownLeaves.{next_box}

pub next_some : (g : Growing) (p : List Bool) → IsNext g p → 0 < length g.holes
next_some g p h = subst (λ (hs : List Hole). 0 < length hs) (sym h.is) (omega arith)

pub next_takes : (g : Growing) (p : List Bool) (b : List Bounds) (o : Outcome) (h : IsNext g p) → IsFirstBox g.holes b → Fits b o → HasDepth p o → Takes g.holes o
next_takes g p b o h k f d =
    subst (λ (hs : List Hole). Takes hs o) (sym h.is) (subst (λ (x : List Bounds). Fits x o) (next_box g p b h k) f, subst (λ (q : List Bool). HasDepth q o) h.path d)
