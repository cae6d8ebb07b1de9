-- How the counts of a list of buckets relate.
use Rattle.std.proofs.Common.{◌≡◌, ℕ, zero, suc, ◌+◌, ◌<◌, ◌≤◌, List, [], ◌∷◌, length, arith}
use Rattle.std.proofs.lemmas.List.Sums.{sum_by-cons}
use Rattle.pthash.specs.Order.{Bucket, bucket_at, most_members, member_count, HasNoEmptyBucket}

-- a bucket has at most as many members as the largest
pub members-most_members : (buckets : List Bucket) (rank : ℕ) → rank < length buckets → length (bucket_at buckets rank).members ≤ most_members buckets
members-most_members [] rank known = absurd (omega arith)
members-most_members (b ∷ bs) zero known = omega arith
members-most_members (b ∷ bs) (suc rank) known = omega (arith, members-most_members bs rank (omega arith))

-- the largest bucket has at most all members
pub most_members-member_count : (buckets : List Bucket) → most_members buckets ≤ member_count buckets
most_members-member_count [] = omega arith
most_members-member_count (b ∷ bs) =
    let both : member_count (b ∷ bs) ≡ length b.members + member_count bs = sum_by-cons (λ (bucket : Bucket). length bucket.members) b bs in
    omega (arith, most_members-member_count bs)

-- where no bucket is empty, there are at most as many buckets as members
pub length-member_count : (buckets : List Bucket) → HasNoEmptyBucket buckets → length buckets ≤ member_count buckets
length-member_count [] no_empty = omega arith
length-member_count (b ∷ bs) no_empty =
    let first : 0 < length b.members = no_empty 0 (omega arith) in
    let both : member_count (b ∷ bs) ≡ length b.members + member_count bs = sum_by-cons (λ (bucket : Bucket). length bucket.members) b bs in
    let rest : length bs ≤ member_count bs = length-member_count bs (λ rank known. no_empty (suc rank) (omega arith)) in
    omega arith
