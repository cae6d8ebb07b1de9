use Rattle.std.proofs.Common.{◌≡◌, ◌-◌, min, length, ap, ◌∙◌, arith}
use Rattle.std.specs.Prelude.{slice_index}
use Rattle.std.specs.FinSet.{contains}
use Rattle.pthash.specs.ApartCounts.{one_if}
use Rattle.build_outcome.specs.FreeList.{free_list_of}
use Rattle.build_outcome.specs.FreeListLaws.{length-free_list_of}
use Rattle.part_function.proofs.FreeEntries.{bool_byte-one_if, no_entry, one_more_entry, all_entries}
use Rattle.part_function.proofs.free_positions.free_entries.Goals as goal

pub loop-position-init : goal.loop-position-init
loop-position-init c = no_entry (contains c.args.occupied.now.taken) c.args.n (c.args.n - c.args.n) _ (omega arith) c.in_ok-entries.ensures.items

pub loop-position-preserved : goal.loop-position-preserved
loop-position-preserved c =
    let is_taken = contains c.args.occupied.now.taken in
    let loop = c.loop-position in
    one_more_entry is_taken c.args.n loop.position loop.rank c.from-rank.result c.entry_at.result c.in_ok-free.free.items loop.entries.items _
    (omega arith) c.in_ok-free.ensures
    (c.entry_at.ensures ∙ ap (λ fs. slice_index fs (min loop.rank (length fs - 1))) c.deref.ensures.value)
    (c.from-rank.ensures ∙ bool_byte-one_if c.contains.result ∙ ap one_if c.contains.ensures)
    c.in_ok-push.ensures.items loop.invariant

pub returns-clause-entries : goal.returns-clause-entries
returns-clause-entries c =
    all_entries (contains c.args.occupied.now.taken) c.args.n c.loop-position.position c.args.occupied.now.size c.loop-position.rank
    c.loop-position.entries.items (omega (arith, c.size-size.ensures.value)) c.loop-position.invariant

pub returns-clause-few : goal.returns-clause-few
returns-clause-few c =
    let is_taken = contains c.args.occupied.now.taken in
    let entries : c.loop-position.entries.items ≡ free_list_of is_taken c.args.n c.args.occupied.now.size =
    all_entries is_taken c.args.n c.loop-position.position c.args.occupied.now.size c.loop-position.rank c.loop-position.entries.items
    (omega (arith, c.size-size.ensures.value)) c.loop-position.invariant in
    omega (arith, ap length entries, length-free_list_of is_taken c.args.n c.args.occupied.now.size, c.size-size.ensures.value, c.size-size.ensures.bound)
