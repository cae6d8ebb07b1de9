use Rattle.std.specs.Prelude.{◌≡◌, ℕ}
use Rattle.std.specs.Int.{w64, to_be_bytes}
use Rattle.std.proofs.Common.{ap, ◌∙◌}
use Rattle.hex.specs.Hex.{encode_lower}
use Rattle.pthash.specs.Hash.{pilot_hash}
use Rattle.demo_index.specs.Keys.{demo_key}
use Rattle.demo_index.proofs.keys.key_of.Goals as goal

pub returns : goal.returns
unfolding demo_key pilot_hash
returns c =
    let hash : ℕ = c.pilot_hash-hash.result in
    let bytes : c.to_be_bytes.result ≡ to_be_bytes w64 hash = c.to_be_bytes.ensures in
    (rw c.unwrap.ensures at c.encode_to_slice.ensures.written)
    ∙ ap encode_lower (bytes ∙ ap (to_be_bytes w64) c.pilot_hash-hash.ensures)
