use Rattle.std.proofs.Common.{◌≡◌, subst, sym, rules}
use Rattle.pv_ctc.specs.Symbols.{tokens_at}
use Rattle.pv_ctc.specs.Refusals.{exactly}
use Rattle.pv_ctc.specs.Taking.{Stopped}
use Rattle.std.proofs.Common.{[], ◌∷◌}
use Rattle.pv_ctc.proofs.Dues.{other_mark}
use Rattle.pv_ctc.proofs.reading.Reader.want.Goals as goal

pub returns-then-ne-clause-stopped : goal.returns-then-ne-clause-stopped
returns-then-ne-clause-stopped c =
    let differs : c.token_at-found.result.0 ≡ c.args.token → ⊥ = search rules in
    subst (Stopped c.args.self.now.count (exactly c.args.token ∷ []) c.args.self.now.named (tokens_at c.args.self.now.text.now c.args.self.now.at)) (sym c.refusal.ensures)
    (other_mark c.args.self.now.count c.args.self.now.named c.args.token c.token_at-found.result.0 c.args.self.now.at _ _ c.token_at-found.ensures.first c.requires differs)
