use Rattle.std.proofs.Common.{◌≡◌, ◌<◌, ◌+◌, ◌++◌, [], ◌∷◌, length, arith, sym, ap, subst, ◌∙◌, length-set}
use Rattle.pv_tree.specs.declared.path.Path.TheInside.{Inside}
use Rattle.pv_tree.specs.Paths.{IsPadded, count-steps_of, steps_in}
use Rattle.pv_tree.proofs.PathSteps.{low_steps, high_steps, high_padding, high_fits}
use Rattle.pv_tree.proofs.path.Path.push.Goals.{then-high, else-high}
use Rattle.pv_tree.proofs.path.Path.push.Goals as goal

pub returns : goal.returns
returns c =
    let e : length c.args.self.now ≡ c.self.inside.len = sym (ap length c.self.view_is) ∙ count-steps_of c.self.inside c.self.invariant in
    let lt : c.self.inside.len < 200 = omega arith in
    elim c.if-high.branch [
      | then-high w ↦ ap (λ (s : Inside). steps_in s.words (s.len + 1)) w.self-inside-is
          ∙ high_steps c.self.inside.words c.self.inside.len c.self.invariant.size lt
          ∙ (λ i. c.self.view_is i ++ sym w.if-high.true i ∷ [])
      | else-high w ↦ ap (λ (s : Inside). steps_in s.words (s.len + 1)) w.self-inside-is
          ∙ low_steps c.self.inside.words c.self.inside.len (c.self.invariant.padding c.self.inside.len (omega arith))
          ∙ (λ i. c.self.view_is i ++ sym w.if-high.false i ∷ [])
    ]

pub invariant_of-self : goal.invariant_of-self
invariant_of-self c =
    let e : length c.args.self.now ≡ c.self.inside.len = sym (ap length c.self.view_is) ∙ count-steps_of c.self.inside c.self.invariant in
    let lt : c.self.inside.len < 200 = omega arith in
    elim c.if-high.branch [
      | then-high w ↦ subst (λ (s : Inside). IsPadded (record { words = s.words; len = s.len + 1 })) (sym w.self-inside-is) (record {
        size = length-set c.self.inside.words _ _ ∙ c.self.invariant.size;
        few = omega arith;
        fits = high_fits c.self.inside.words c.self.inside.len c.self.invariant.size lt c.self.invariant.fits;
        padding = high_padding c.self.inside.words c.self.inside.len c.self.invariant.size lt c.self.invariant.padding;
      })
      | else-high w ↦ subst (λ (s : Inside). IsPadded (record { words = s.words; len = s.len + 1 })) (sym w.self-inside-is) (record {
        size = c.self.invariant.size;
        few = omega arith;
        fits = c.self.invariant.fits;
        padding = λ i le. c.self.invariant.padding i (omega arith);
      })
    ]
