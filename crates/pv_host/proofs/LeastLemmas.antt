-- A host that has room for the least that can be written next is given bytes for which it has room.
use Rattle.std.proofs.Common.{◌≡◌, ℕ, ◌+◌, ◌-◌, ◌≤◌, nat_le, Bool, true, false, if◌then◌else◌, List, [], ◌∷◌, Option, Some, None, length, arith, refl, length-append}
use Rattle.std.specs.Option.{option_map}
use Rattle.std.proofs.lemmas.Bool.Decides.{nat_tests}
use Rattle.pv_disk_model.specs.Size.{Contents}
use Rattle.pv_format.specs.Journal.{end_of, record_of, records_of}
use Rattle.pv_law_journal.proofs.SizeLemmas.{length-framed}
use Rattle.pv_host.proofs.GroupLemmas.{length-behind}
use Rattle.pv_host.specs.HostLog.{Fits, HostState, HostWrite, asked_after, behind_gate_of, fitting, group_of, least_write, next_write, with_asked, write_after}

-- What fits into a room is no longer.
one-fits : (room : ℕ) (first : List ℕ) (later : Contents) (fits : Bool) → nat_le (5 + length first) room ≡ fits
    → length (records_of (fitting (room - (5 + length first)) later)) ≤ room - (5 + length first)
    → length (records_of (if fits then first ∷ fitting (room - (5 + length first)) later else [])) ≤ room
one-fits room first later true is rest =
    let le : 5 + length first ≤ room = grind (arith, nat_tests, is) in
    omega (arith, le, rest, length-append (record_of first) (records_of (fitting (room - (5 + length first)) later)), length-framed first)
one-fits room first later false is rest = omega arith

fitting-fits : (room : ℕ) (contents : Contents) → length (records_of (fitting room contents)) ≤ room
fitting-fits room [] = omega arith
fitting-fits room (first ∷ later) = one-fits room first later (nat_le (5 + length first) room) refl (fitting-fits (room - (5 + length first)) later)

-- A group is no longer than the room for it, if its first record isn't.
group-length : (first : List ℕ) (later : Contents) → length (behind_gate_of (first ∷ later)) ≡ 5 + length first + length (records_of later)
group-length first later = omega (arith, length-behind (first ∷ later), length-append (record_of first) (records_of later), length-framed first)

abbrev length_of : Option HostWrite → Option ℕ
length_of given = option_map (λ (write : HostWrite). length write.bytes) given

given-fits : (room needed : ℕ) (given : Option HostWrite) → length_of given ≡ Some needed → needed ≤ room → Fits room given
given-fits room needed None is le = absurd cc
given-fits room needed (Some write) is le = let same : length write.bytes ≡ needed = cc in (write, refl, omega (arith, same, le))

group-fits : (room needed : ℕ) (stored pending : Contents) (behind_gate : Bool) → length_of (write_after stored (group_of 0 pending) behind_gate) ≡ Some needed → needed ≤ room
    → Fits room (write_after stored (group_of room pending) behind_gate)
group-fits room needed stored [] behind_gate is le = absurd cc
group-fits room needed stored (first ∷ later) true is le = let one : 1 ≡ needed = cc in (record { place = end_of stored; bytes = 1 ∷ [] }, refl, omega (arith, one, le))
group-fits room needed stored (first ∷ later) false is le =
    let least : length (behind_gate_of (first ∷ fitting (0 - (5 + length first)) later)) ≡ needed = cc in
    let others = fitting (room - (5 + length first)) later in
    let long : length (behind_gate_of (first ∷ others)) ≤ room =
    omega (arith, le, least, group-length first (fitting (0 - (5 + length first)) later), group-length first others, fitting-fits (room - (5 + length first)) later) in
    (record { place = end_of stored + 1; bytes = behind_gate_of (first ∷ others) }, refl, long)

asked-fits : (room needed : ℕ) (log : HostState) (asked : Contents) → length_of (next_write (asked_after 0 log asked)) ≡ Some needed → needed ≤ room
    → Fits room (next_write (asked_after room log asked))
asked-fits room needed log [] is le = group-fits room needed log.stored log.pending log.behind_gate is le
asked-fits room needed log (first ∷ later) is le = given-fits room needed (next_write log) is le

-- The host is asked to write as much as there is room for.
pub least-fits : (room needed : ℕ) (log : HostState) → least_write log ≡ Some needed → needed ≤ room → Fits room (next_write (with_asked room log))
least-fits room needed log is le = asked-fits room needed log log.asked is le
