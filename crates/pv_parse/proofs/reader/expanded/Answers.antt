use Rattle.std.proofs.Common.{arith, vec_len, rules, ◌≡◌, ℕ, ◌<◌, length, subst, sym, ap}
use Rattle.pv_code.specs.Expansion.{constraints_of}
use Rattle.pv_code.specs.Sizes.{AreWithin, IsFirstLarge}
use Rattle.pv_code.proofs.Constraints.{made-all, made-nothing, more-constraints, part-none, value-of}
use Rattle.pv_parse.proofs.Limited.{constraint-next, expanded-same, first-too-large, function-next, large-at, roomed-none, value-next}
use Rattle.pv_parse.proofs.reader.expanded.Goals.{in-Define+in_ok-made-in-Define+in_ok-push-in-Define, in-Relate+in_ok-with_it-in-Relate+in-Some+in_ok-made-in-Relate+in_ok-push-in-Relate, in_default}
use Rattle.pv_parse.proofs.reader.expanded.Goals as goal

pub loop-i-preserved : goal.loop-i-preserved
loop-i-preserved c =
    let within : c.loop-i.i < length c.args.code.now = search rules in
    elim c.match-code-i.branch [
      | in-Define+in_ok-made-in-Define+in_ok-push-in-Define w ↦ record {
        so_far = expanded-same (ap (λ v. v.items) w.functions-is) w.from-is (ap (λ v. v.items) w.constraints-is) w.nodes-is
            (function-next _ c.loop-i.functions.items w.push.new.self.items w.in_ok-made-in-Define.made c.args.code.now c.loop-i.from c.loop-i.i c.loop-i.constraints.items c.loop-i.nodes _ within w.in-Define.is
            c.loop-i.invariant.so_far w.as_slice.ensures.value w.in_ok-made-in-Define.ensures.keeps w.in_ok-made-in-Define.ensures.measured w.in_ok-push-in-Define.ensures.items);
      }
      | in-Relate+in_ok-with_it-in-Relate+in-Some+in_ok-made-in-Relate+in_ok-push-in-Relate w ↦ record {
        so_far = expanded-same (ap (λ v. v.items) w.functions-is) w.from-is (ap (λ v. v.items) w.constraints-is) w.nodes-is
            (constraint-next _ _ c.loop-i.functions.items c.args.code.now c.loop-i.from c.loop-i.i c.loop-i.constraints.items w.push-in-Relate.new.self.items w.in_ok-made-in-Relate.made c.loop-i.nodes w.in-Some.with_it _
            w.in-Relate.relation _ within w.in-Relate.is c.loop-i.invariant.so_far w.as_slice-in-Relate.ensures.value w.in_ok-with_it-in-Relate.ensures w.in-Some.is w.as_slice-in-Relate-2.ensures.value
            w.in_ok-made-in-Relate.ensures w.in_ok-push-in-Relate.ensures.items);
      }
      | in_default w ↦ record {
        so_far = expanded-same (ap (λ v. v.items) w.functions-is) w.from-is (ap (λ v. v.items) w.constraints-is) w.nodes-is
            (value-next _ within (value-of _ w.in_default.not-Define w.in_default.not-Relate) c.loop-i.invariant.so_far);
      }
    ]

pub returns-in_default-2-clause-large : goal.returns-in_default-2-clause-large
returns-in_default-2-clause-large c =
    let within : c.loop-i.i < length c.args.code.now = search rules in
    let many : c.len.result ≡ length c.loop-i.constraints.items = search rules in
    large-at c.args.starts.now c.args.code.now c.len.result c.too_large.result c.too_large.ensures.at
    (subst (λ (k : ℕ). IsFirstLarge (constraints_of c.args.code.now) k) (sym many)
    (first-too-large _ c.loop-i.functions.items c.args.code.now c.loop-i.from c.loop-i.i c.loop-i.constraints.items c.loop-i.nodes _ c.in-Relate.relation _ within c.in-Relate.is c.loop-i.invariant.so_far
    c.as_slice-in-Relate.ensures.value c.in_ok-with_it-in-Relate.ensures c.in_default-2.is))

pub too_large-requires-clause-within : goal.too_large-requires-clause-within
too_large-requires-clause-within c =
    let within : c.loop-i.i < length c.args.code.now = search rules in
    let so_far = c.loop-i.invariant.so_far in
    let more = more-constraints c.loop-i.functions.items c.args.code.now c.loop-i.from c.loop-i.i c.loop-i.constraints.items c.in-Relate.relation _ within c.in-Relate.is so_far.part so_far.made in
    let long : length c.loop-i.constraints.items ≡ vec_len c.loop-i.constraints = search rules in
    omega (arith, more, c.requires.each, c.len.ensures, long)

pub loop-i-init : goal.loop-i-init
loop-i-init c = record {
  so_far = record {
    part = part-none c.args.code.now 0;
    made = made-nothing c.new-functions.result.items c.new-constraints.result.items c.args.code.now c.new-functions.ensures.items c.new-constraints.ensures.items;
    room = roomed-none c.new-constraints.result.items c.new-constraints.ensures.items;
  };
}

pub returns-clause-means : goal.returns-clause-means
returns-clause-means c =
    let so_far = c.loop-i.invariant.so_far in
    made-all c.loop-i.functions.items c.args.code.now c.loop-i.from c.loop-i.i c.loop-i.constraints.items (search rules) so_far.part so_far.made

pub returns-clause-within : goal.returns-clause-within
returns-clause-within c = λ ok.
    let so_far = c.loop-i.invariant.so_far in
    subst AreWithin (made-all c.loop-i.functions.items c.args.code.now c.loop-i.from c.loop-i.i c.loop-i.constraints.items (search rules) so_far.part so_far.made) so_far.room.within
