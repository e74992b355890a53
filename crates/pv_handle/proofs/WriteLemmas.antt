-- A host is given what it is to write next.
use Rattle.std.proofs.Common.{◌≡◌, ℕ, ◌≤◌, Bool, true, List, Option, Some, length, arith, refl, sym, ap, ◌∙◌}
use Rattle.pv_host.specs.HostLog.{Fits, HostState, HostWrite, least_write, next_write, with_asked}
use Rattle.pv_embed.specs.Hosted.{AsksForGroup, HostedState}
use Rattle.pv_handle.proofs.ByteLemmas.{asks-front, front}
use Rattle.pv_handle.specs.ByteSite.{TakesWrite}
use Rattle.pv_handle.specs.ByteState.{ByteState}
use Rattle.pv_handle.specs.Given.{GivesBytes}
use Rattle.pv_handle.specs.declared.bytes.Waiting.{Waiting}
use Rattle.pv_handle.specs.declared.given.Given.{Given}
use Rattle.pv_handle.specs.declared.given.Given.TheVariants.{Nothing, Bytes, TooSmall}
use Rattle.pv_handle.specs.declared.tags.Tag.{Tag}

-- Bytes for which there is room are given.
gives-write : (room out : List ℕ) (old new : ByteState) (write : HostWrite) (given : Given) → AsksForGroup (length room) old.hosted new.hosted → new.taken ≡ true → new.tags ≡ old.tags
    → next_write new.hosted.site.log ≡ Some write → length write.bytes ≤ length room → GivesBytes write.bytes write.place room out given → TakesWrite room out old new given
gives-write room out old new write Nothing asks taken tags is le gives = absurd gives
gives-write room out old new write (Bytes count to) asks taken tags is le gives = (record { asks = asks; write = write; next = is; gives = gives }, taken, tags)
gives-write room out old new write (TooSmall needed) asks taken tags is le gives = absurd (omega (arith, le, gives.1))

-- Where there is room for the least that can be written next, there is room for what the host is asked to write.
pub next-given : (waiting : Option Waiting) (taken : Bool) (tags : List Tag) (old after : HostedState) (room out : List ℕ) (needed : ℕ) (write : HostWrite) (given : Given)
    → AsksForGroup (length room) old after → least_write old.site.log ≡ Some needed → needed ≤ length room
    → ((log : HostState) (room needed : ℕ) → least_write log ≡ Some needed → needed ≤ room → Fits room (next_write (with_asked room log)))
    → next_write after.site.log ≡ Some write → GivesBytes write.bytes write.place room out given
    → TakesWrite room out (record { hosted = front waiting old; taken = taken; tags = tags }) (record { hosted = front waiting after; taken = true; tags = tags }) given
next-given waiting taken tags old after room out needed write given asks least le fits is gives =
    let fit = fits old.site.log (length room) needed least le in
    let both : Some write ≡ Some fit.0 = sym is ∙ ap next_write asks.log ∙ fit.1 in
    let same : write ≡ fit.0 = cc in
    gives-write room out (record { hosted = front waiting old; taken = taken; tags = tags }) (record { hosted = front waiting after; taken = true; tags = tags }) write given
    (asks-front waiting old after (length room) asks) refl refl is (omega (arith, fit.2, ap (λ (w : HostWrite). length w.bytes) same)) gives
