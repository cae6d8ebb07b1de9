-- What callers may use of clashes.
use Rattle.std.specs.Prelude.{◌↔◌, ℕ, List, Option, IsNone, IfSome}
use Rattle.std.specs.List.Sorted.{IsPermutation}
use Rattle.std.proofs.lemmas.List.Sorted.{IsPermutation-sym}
use Rattle.std.proofs.lemmas.Option.{IfSome_then}
use Rattle.pthash.specs.declared.Record.{Record}
use Rattle.bucket_map.specs.Clash.{HasDistinctPairs, HasDistinctOrdinals, IsLeastClash}
use Rattle.bucket_map.proofs.Moved.{moved, pairs-moved, ordinals-moved, least-moved}

-- an answer on clashes: none where all pairs differ, and else the least
pub record IsClashAnswer (records : List Record) (answer : Option (ℕ × ℕ)) : Type 0 where
  pub none : IsNone answer ↔ HasDistinctPairs records
  pub least : HasDistinctOrdinals records → IfSome answer (λ c. IsLeastClash records c.0 c.1)

-- it doesn't depend on the order of the records
pub IsClashAnswer-IsPermutation : (xs ys : List Record) (answer : Option (ℕ × ℕ)) → IsPermutation xs ys → IsClashAnswer ys answer →
    IsClashAnswer xs answer
IsClashAnswer-IsPermutation xs ys answer moves is =
    let there = moved xs ys moves in
    let back = moved ys xs (IsPermutation-sym xs ys moves) in
    record {
      none = (λ none. pairs-moved ys xs back (is.none.0 none), λ differ. is.none.1 (pairs-moved xs ys there differ));
      least = λ distinct. IfSome_then answer {P = λ c. IsLeastClash ys c.0 c.1} {Q = λ c. IsLeastClash xs c.0 c.1}
          (is.least (ordinals-moved xs ys there distinct)) (λ c h. least-moved xs ys there back c.0 c.1 h);
    }
