-- Each read took the front of what was left, so what was read so far is the front of the text.
use Rattle.std.proofs.KnownBytes.{Appends-trans}
use Rattle.std.proofs.Common.{length-append, ◌≡◌, ◌<◌, ◌++◌, length, vec_len, take, drop, ◌∙◌, arith, rules}
use Rattle.std.proofs.lemmas.List.{length-take, take_at}
use Rattle.pv_io.proofs.ReadLemmas.{Appends-none, Appends-grown, Appends-end, kept-first, Consumes-none, Consumes-grown, whole_text, long_text, taken_twice}
use Rattle.pv_io.proofs.reading.read_all.Goals as goal

pub loop-piece-init : goal.loop-piece-init
loop-piece-init g c = record {
  room = c.in_ok-piece.ensures;
  within = omega (arith, c.new-bytes.ensures.len);
  consumed = Consumes-none _ _ c.new-bytes.ensures.items;
  given = Appends-none _ _ c.new-bytes.ensures.items;
  kept = λ untold given. given;
  known = search rules;
  counted = search rules;
}

pub returns-then-count-eq0 : goal.returns-then-count-eq0
returns-then-count-eq0 g c =
    let before = c.loop-piece.invariant in
    let read = c.in_ok-count.ensures in
    let room : 0 < length c.read.new.into = omega (arith, c.deref_mut.ensures.len) in
    let none = c.if-count-eq0.true in
    let whole = whole_text _ _ _ _ _ _ before.consumed read.bytes.0 none (read.bytes.1 none room) in
    record {
      whole = whole;
      given = Appends-end _ _ _ _ _ _ before.given read.given none;
      kept = λ fine. kept-first _ _ _ _ _ before.known before.kept read.kept;
      within = before.within;
      too_long = search rules;
      too_much = search rules;
      fault = search rules;
      failed_within = search rules;
      taken = search (rules, before, read);
      known = read.known ∙ before.known;
      counted = omega (arith, before.counted, read.fault.0);
      uncounted = λ _. read.uncounted ∙ before.counted;
    }

pub loop-piece-preserved : goal.loop-piece-preserved
loop-piece-preserved g c =
    let before = c.loop-piece.invariant in
    let read = c.in_ok-count.ensures in
    let extended = c.in_ok-extend_from_slice.ensures in
    let piece = c.loop-piece.piece in
    let got = c.read.new.into in
    let whole = take_at got (drop (length got) piece.items) (vec_len piece) (omega (arith, c.deref_mut.ensures.len)) in
    let taken = take c.in_ok-count.count got in
    let front : c.split_at.result.0.now ≡ taken = cc (c.split_at.ensures.front, c.deref.ensures.value, whole) in
    let grown : c.extend_from_slice.new.self.items ≡ c.loop-piece.bytes.items ++ taken = cc (extended.items, front) in
    record {
      room = before.room;
      within = omega (arith, extended.len);
      consumed = Consumes-grown _ _ _ _ _ _ before.consumed read.bytes.0 grown;
      given = Appends-grown _ _ _ _ _ _ before.given read.given grown;
      kept = λ untold given. (kept-first _ _ _ _ _ before.known before.kept read.kept untold).0;
      known = read.known ∙ before.known;
      counted = read.uncounted ∙ before.counted;
    }

-- The read that passed the limit took one piece more.
pub returns-then-count-limit : goal.returns-then-count-limit
returns-then-count-limit g c =
    let before = c.loop-piece.invariant in
    let read = c.in_ok-count.ensures in
    let size = length-take c.in_ok-count.count c.read.new.into in
    record {
      whole = search rules;
      given = tt;
      kept = λ fine. kept-first _ _ _ _ _ before.known before.kept read.kept;
      within = search rules;
      too_much = λ _. (
        c.loop-piece.bytes.items ++ take c.in_ok-count.count c.read.new.into,
        Appends-trans _ _ _ _ _ before.given read.given,
        omega (arith, read.bound, size, c.loop-piece.bytes.ok.0, length-append c.loop-piece.bytes.items (take c.in_ok-count.count c.read.new.into)),
      );
      too_long = λ _ text is.
          let both = long_text _ _ _ _ _ before.consumed read.bytes.0 text is in
          omega (arith, both, read.bound, size, c.loop-piece.bytes.ok.0);
      fault = search rules;
      failed_within = search rules;
      taken = taken_twice _ _ _ _ _ before.consumed read.bytes.0 (omega (arith, before.within, before.room, read.bound, size, c.deref_mut.ensures.len, c.loop-piece.bytes.ok.0));
      known = read.known ∙ before.known;
      counted = omega (arith, before.counted, read.fault.0);
      uncounted = λ _. read.uncounted ∙ before.counted;
    }

-- So did the read for whose bytes there was no memory.
pub returns-in_err-extend_from_slice : goal.returns-in_err-extend_from_slice
returns-in_err-extend_from_slice g c =
    let before = c.loop-piece.invariant in
    let read = c.in_ok-count.ensures in
    let size = length-take c.in_ok-count.count c.read.new.into in
    record {
      whole = search rules;
      given = search rules;
      kept = λ fine. absurd (fine (search rules));
      within = search rules;
      too_much = search rules;
      too_long = search rules;
      fault = search rules;
      failed_within = search rules;
      taken = taken_twice _ _ _ _ _ before.consumed read.bytes.0 (omega (arith, before.within, before.room, read.bound, size, c.deref_mut.ensures.len, c.loop-piece.bytes.ok.0));
      known = read.known ∙ before.known;
      counted = omega (arith, before.counted, read.fault.0);
      uncounted = λ _. read.uncounted ∙ before.counted;
    }
