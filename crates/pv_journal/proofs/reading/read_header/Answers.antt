use Rattle.std.proofs.Common.{rules, ◌≡◌, ◌≤◌, ◌≢◌, ◌<◌, min, take, length, slice_index, refl, sym, subst}
use Rattle.pv_disk_model.specs.Disk.{Gives}
use Rattle.pv_format.specs.Journal.{header, HasNoHeader}
use Rattle.pv_journal.proofs.GivenLemmas.{header_read, whole_front}
use Rattle.pv_journal.proofs.ReadLemmas.{no_header, no_gate, begins}
use Rattle.pv_journal.proofs.reading.read_header.Goals as goal

pub returns-then-place-lt8-clause-not_ours : goal.returns-then-place-lt8-clause-not_ours
returns-then-place-lt8-clause-not_ours g c place known bytes is =
    let front = c.in_ok-front.front.items in
    let at = c.agreement-place.result in
    let size : c.args.size ≡ length bytes = c.requires bytes is in
    let read : front ≡ take (min c.args.size 8) bytes = search rules in
    let reached : at ≤ length front = search rules in
    let same : take at front ≡ take at header = search rules in
    let differ : at < length front → slice_index front at ≢ slice_index header at = λ inside. search rules in
    let here : place ≡ at = cc in
    subst (HasNoHeader bytes) (sym here) (no_header bytes front c.args.size at size read reached c.if-place-lt8.true same differ)

pub returns-then-size-le8-clause-not_ours : goal.returns-then-size-le8-clause-not_ours
returns-then-size-le8-clause-not_ours g c place known bytes is =
    let front = c.in_ok-front.front.items in
    let size : c.args.size ≡ length bytes = c.requires bytes is in
    let read : front ≡ take (min c.args.size 8) bytes = search rules in
    let at : c.agreement-place.result ≡ 8 = search rules in
    let reached : 8 ≤ length front = search rules in
    let same : take 8 front ≡ take 8 header = search rules in
    let here : place ≡ 8 = cc in
    subst (HasNoHeader bytes) (sym here) (no_gate bytes front c.args.size size c.if-size-le8.true reached read same)

pub returns-clause-passed : goal.returns-clause-passed
returns-clause-passed g c bytes is =
    let front = c.in_ok-front.front.items in
    let size : c.args.size ≡ length bytes = c.requires bytes is in
    let read : front ≡ take (min c.args.size 8) bytes = search rules in
    let at : c.agreement-place.result ≡ 8 = search rules in
    let same : take 8 front ≡ take 8 header = search rules in
    begins bytes front c.args.size size (search rules) read same

pub returns-then-place-lt8-clause-gave_none : goal.returns-then-place-lt8-clause-gave_none
returns-then-place-lt8-clause-gave_none g c place known =
    let front = c.in_ok-front.front.items in
    let at = c.agreement-place.result in
    let few : length front ≤ 8 = search rules in
    let reached : at ≤ length front = search rules in
    let same : take at front ≡ take at header = search rules in
    let differ : at < length front → slice_index front at ≢ slice_index header at = λ inside. search rules in
    let here : place ≡ at = cc in (
      front,
      c.in_ok-front.ensures.gave,
      subst (HasNoHeader front) (sym here) (no_header front front (length front) at refl (whole_front front few) reached c.if-place-lt8.true same differ),
    )

pub returns-then-size-le8-clause-gave_none : goal.returns-then-size-le8-clause-gave_none
returns-then-size-le8-clause-gave_none g c place known =
    let front = c.in_ok-front.front.items in
    let few : length front ≤ 8 = search rules in
    let at : c.agreement-place.result ≡ 8 = search rules in
    let reached : 8 ≤ length front = search rules in
    let same : take 8 front ≡ take 8 header = search rules in
    let here : place ≡ 8 = cc in (
      front,
      c.in_ok-front.ensures.gave,
      subst (HasNoHeader front) (sym here) (no_gate front front (length front) refl few reached (whole_front front few) same),
    )

pub returns-clause-gave : goal.returns-clause-gave
returns-clause-gave g c =
    let front = c.in_ok-front.front.items in
    let few : length front ≤ 8 = search rules in
    let at : c.agreement-place.result ≡ 8 = search rules in
    let same : take 8 front ≡ take 8 header = search rules in
    subst (Gives g.D.Disk.model c.args.disk.now c.read_content.new.disk) (header_read front few same) c.in_ok-front.ensures.gave
