-- A host of an outbox is given what it is to write next.
use Rattle.std.proofs.Common.{◌≡◌, ℕ, ◌≤◌, true, List, Some, length, arith, refl, sym, ap, ◌∙◌}
use Rattle.pv_host.specs.HostLog.{Fits, HostState, HostWrite, least_write, next_write, with_asked}
use Rattle.pv_embed_outbox.specs.Hosted.{AsksForGroup, HostedState}
use Rattle.pv_handle.specs.Given.{GivesBytes}
use Rattle.pv_handle.specs.Outbox.{BoxState, TakesBoxWrite}
use Rattle.pv_handle.specs.declared.given.Given.{Given}
use Rattle.pv_handle.specs.declared.given.Given.TheVariants.{Nothing, Bytes, TooSmall}

-- Bytes for which there is room are given.
gives_write : (room out : List ℕ) (old new : BoxState) (write : HostWrite) (given : Given) → AsksForGroup (length room) old.hosted new.hosted → new.taken ≡ true
    → next_write new.hosted.outbox.log ≡ Some write → length write.bytes ≤ length room → GivesBytes write.bytes write.place room out given → TakesBoxWrite room out old new given
gives_write room out old new write Nothing asks taken is le gives = absurd gives
gives_write room out old new write (Bytes count to) asks taken is le gives = (record { asks = asks; write = write; next = is; gives = gives }, taken)
gives_write room out old new write (TooSmall needed) asks taken is le gives = absurd (omega (arith, le, gives.1))

-- Where there is room for the least that can be written next, there is room for what the host is asked to write.
pub box_write_given : (old : BoxState) (after : HostedState) (room out : List ℕ) (needed : ℕ) (write : HostWrite) (given : Given) → AsksForGroup (length room) old.hosted after
    → least_write old.hosted.outbox.log ≡ Some needed → needed ≤ length room
    → ((log : HostState) (room needed : ℕ) → least_write log ≡ Some needed → needed ≤ room → Fits room (next_write (with_asked room log)))
    → next_write after.outbox.log ≡ Some write → GivesBytes write.bytes write.place room out given
    → TakesBoxWrite room out old (record { hosted = after; taken = true }) given
box_write_given old after room out needed write given asks least le fits is gives =
    let fit = fits old.hosted.outbox.log (length room) needed least le in
    let both : Some write ≡ Some fit.0 = sym is ∙ ap next_write asks.log ∙ fit.1 in
    let same : write ≡ fit.0 = cc in
    gives_write room out old (record { hosted = after; taken = true }) write given asks refl is (omega (arith, fit.2, ap (λ (w : HostWrite). length w.bytes) same)) gives
