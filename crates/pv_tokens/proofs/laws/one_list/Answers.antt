use Rattle.std.proofs.Common.{suc, arith, length}
use Rattle.pv_tokens.proofs.Exists.{list_from}
use Rattle.pv_tokens.proofs.Unique.{one_list}
use Rattle.pv_tokens.proofs.laws.one_list.Goals as goal

pub returns : goal.returns
returns c = record {
  one = λ t.
      let (tokens, are) = list_from t (suc (length t)) 0 (omega arith) (omega arith) in
      record { tokens = tokens; are = are; one = λ others h. one_list t 0 others tokens h are };
}
