-- What comes of a campaign, by the steps of `campaign`.
use Rattle.std.proofs.Common.{◌≡◌, ℕ, ◌*◌, List, inr, refl, subst, arith}
use Rattle.std.specs.Prelude.{Result, Ok, Err, IfOk, IfErr}
use Rattle.clap.specs.Words.{Text}
use Rattle.pv_interval.specs.Bounds.{Bounds}
use Rattle.pv_tree.specs.Trees.{Tree}
use Rattle.pv_tree.specs.Stages.{Rule}
use Rattle.pv_slope.specs.Methods.{Method, settle_by, identity_of}
use Rattle.pv_keep.specs.Keeping.{Kept}
use Rattle.pv_scope.specs.declared.order.Order.{Order}
use Rattle.pv_rounds.specs.Holding.{IsHeld, IsBroken}
use Rattle.pv_rounds.specs.declared.campaign.HoldRefused.TheVariants as hold
use Rattle.pv_rule.specs.Systems.{Files, HasRule, search_box}
use Rattle.pv_product.specs.Campaigns.{Stock, RefusesRounds, RefusesCampaign}
use Rattle.pv_product.specs.Products.{Product, ComesOfRounds, ComesOfCampaign}
use Rattle.pv_product.specs.Made.{made}
use Rattle.pv_product.specs.declared.product.Product as code
use Rattle.pv_request.specs.declared.request.Settings.{Settings}
use Rattle.pv_request.specs.declared.request.Rounds.{Rounds}
use Rattle.pv_request.specs.declared.refusal.Refusal.{Refusal}
use Rattle.pv_request.specs.declared.refusal.Refusal.TheVariants.{Memory}

-- a campaign whose rounds are over was interrupted behind its last round
pub held_broken : (limit : ℕ) (rule : Rule) (depth : ℕ) (b : List Bounds) (order : Order) (identity : List ℕ) (boxes count : ℕ) (k0 k1 : Kept) (t : Tree) → IsHeld limit rule depth b order identity (count * boxes) k0 k1 t
    → IsBroken limit rule depth b order identity boxes count k0 k1
held_broken limit rule depth b order identity boxes count k0 k1 t h = record {
  opening = h.opening;
  middle = h.middle;
  opened = h.opened;
  few = h.few;
  stopped = record { rounds = count; few = omega arith; tree = t; gone = h.gone };
}

memory_or_failed : hold.Memory ≡ hold.Failed → ⊥
memory_or_failed e = cc

-- memory was wanting when the rounds were over
pub memory_behind : (rule : Method) (u v : Stock) (limit : ℕ) (order : Order) (boxes : ℕ) (rounds : Rounds) (b : List Bounds) (identity : List ℕ) (t : Tree) → b ≡ search_box rule → identity ≡ identity_of rule
    → IsHeld limit (settle_by rule) rule.parts.depth b order identity (rounds.count * boxes) (u.kept rounds.name.now) (v.kept rounds.name.now) t → RefusesRounds rule u v limit order boxes rounds Memory
memory_behind rule u v limit order boxes rounds b identity t root same h =
    let k0 = u.kept rounds.name.now in
    let k1 = v.kept rounds.name.now in
    let broken : IsBroken limit (settle_by rule) rule.parts.depth b order identity boxes rounds.count k0 k1 = held_broken limit (settle_by rule) rule.parts.depth b order identity boxes rounds.count k0 k1 t h in
    record {
      refused = hold.Memory;
      because = inr (subst (λ (i : List ℕ). IsBroken limit (settle_by rule) rule.parts.depth (search_box rule) order i boxes rounds.count k0 k1) same
          (subst (λ (c : List Bounds). IsBroken limit (settle_by rule) rule.parts.depth c order identity boxes rounds.count k0 k1) root broken));
      rose = λ e. absurd (memory_or_failed e);
      is = refl;
    }

campaign_comes : (before : Files) (u v : Stock) (system : Text) (s : Settings) (limit : ℕ) (order : Order) (boxes : ℕ) (rounds : Rounds) (rule : Method) (p : Product) → HasRule before system s rule
    → ComesOfRounds rule u v limit order boxes rounds p → ComesOfCampaign before u v system s limit order boxes rounds p
campaign_comes before u v system s limit order boxes rounds rule p read h = record {
  rule = rule;
  read = read;
  tree = h.tree;
  held = h.held;
  honest = λ first. h.learns read.system s h.held.opening read.is first h.held.gone.run.stage;
  is = h.is;
}

pub rounds_come : (before : Files) (u v : Stock) (system : Text) (s : Settings) (limit : ℕ) (order : Order) (boxes : ℕ) (rounds : Rounds) (rule : Method) → HasRule before system s rule
    → (r : Result code.Product Refusal) → IfOk r (λ p. ComesOfRounds rule u v limit order boxes rounds (made p)) → IfOk r (λ p. ComesOfCampaign before u v system s limit order boxes rounds (made p))
rounds_come before u v system s limit order boxes rounds rule read (Ok p) h = campaign_comes before u v system s limit order boxes rounds rule (made p) read h
rounds_come before u v system s limit order boxes rounds rule read (Err e) h = tt

pub rounds_refused : (before after : Files) (u v : Stock) (system : Text) (s : Settings) (limit : ℕ) (order : Order) (boxes : ℕ) (rounds : Rounds) (rule : Method) → HasRule before system s rule
    → (r : Result code.Product Refusal) → IfErr r (RefusesRounds rule u v limit order boxes rounds) → IfErr r (RefusesCampaign before after u v system s limit order boxes rounds)
rounds_refused before after u v system s limit order boxes rounds rule read (Ok p) h = tt
rounds_refused before after u v system s limit order boxes rounds rule read (Err e) h = inr (record { rule = rule; read = read; refused = h })
