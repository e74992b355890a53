-- Contents spell one list of records, or one of them is the first that spells none.
use Rattle.std.proofs.Common.{◌≡◌, ◌⊎◌, ⊎_elim, ℕ, zero, suc, List, [], ◌∷◌, ◌++◌, take, inl, inr, refl, sym, ap, ap₂, subst}
use Rattle.std.proofs.lemmas.Option.{none-some}
use Rattle.pv_base.specs.Answer.{HasOneAnswer}
use Rattle.pv_base.specs.BigEndian.{AreBytes}
use Rattle.pv_base.proofs.Basics.{Some_inj}
use Rattle.pv_format.specs.Contents.{AreWritten, IsNoRecord, SpellRecords, IsFirstBadContent}
use Rattle.pv_format.specs.Record.{Record}
use Rattle.pv_format.specs.RecordSpelling.{IsReadAs, SpellsRecord}
use Rattle.pv_law_format.proofs.AnswerLemmas.{one-record-answer, one-record, record-not-both}
use Rattle.pv_law_format.proofs.SpelledBytes.{record-bytes, bytes-or-not}

record-or-none : (content : List ℕ) → ((entry : Record) × IsReadAs entry content) ⊎ IsNoRecord content
record-or-none content =
    ⊎_elim
    (λ (all : AreBytes content). ⊎_elim (λ found. inl found) (λ wrong. inr (λ other t. record-not-both content other wrong.0 t wrong.1)) (one-record-answer content all).some)
    (λ (not_bytes : AreBytes content → ⊥). inr (λ other t. not_bytes (record-bytes other content t)))
    (bytes-or-not content)

some-replay : (contents : List (List ℕ)) → ((records : List Record) × SpellRecords records contents) ⊎ ((place : ℕ) × IsFirstBadContent contents place)
some-replay [] = inl ([], tt)
some-replay (content ∷ contents) =
    ⊎_elim
    (λ found. ⊎_elim
    (λ rest. inl (found.0 ∷ rest.0, (found.1, rest.1)))
    (λ bad. inr (
      suc bad.0,
      record {
        content = bad.1.content;
        there = bad.1.there;
        none = bad.1.none;
        records = found.0 ∷ bad.1.records;
        before = (found.1, bad.1.before);
      },
    ))
    (some-replay contents))
    (λ none. inr (zero, record { content = content; there = refl; none = none; records = []; before = tt }))
    (record-or-none content)

-- Contents that come one behind the other spell their records one behind the other.
pub spelled-both : (records : List Record) (contents : List (List ℕ)) (more : List Record) (others : List (List ℕ)) → SpellRecords records contents → SpellRecords more others
    → SpellRecords (records ++ more) (contents ++ others)
spelled-both [] [] more others spelled behind = behind
spelled-both [] (content ∷ contents) more others spelled behind = absurd spelled
spelled-both (first ∷ records) [] more others spelled behind = absurd spelled
spelled-both (first ∷ records) (content ∷ contents) more others spelled behind = (spelled.0, spelled-both records contents more others spelled.1 behind)

-- One content more spells one record more.
pub spelled-more : (records : List Record) (contents : List (List ℕ)) (more : Record) (content : List ℕ) → SpellRecords records contents → SpellsRecord more content
    → SpellRecords (records ++ more ∷ []) (contents ++ content ∷ [])
spelled-more records contents more content spelled one = spelled-both records contents (more ∷ []) (content ∷ []) spelled (inl one, tt)

-- Contents that are written are read as what they are.
pub written-read : (records : List Record) (contents : List (List ℕ)) → AreWritten records contents → SpellRecords records contents
written-read [] [] written = tt
written-read [] (content ∷ contents) written = absurd written
written-read (entry ∷ records) [] written = absurd written
written-read (entry ∷ records) (content ∷ contents) written = (inl written.0, written-read records contents written.1)

-- One content more is written where it is one record more as that is written.
pub written-more : (records : List Record) (contents : List (List ℕ)) (more : Record) (content : List ℕ) → AreWritten records contents → SpellsRecord more content
    → AreWritten (records ++ more ∷ []) (contents ++ content ∷ [])
written-more [] [] more content written one = (one, tt)
written-more [] (first ∷ contents) more content written one = absurd written
written-more (entry ∷ records) [] more content written one = absurd written
written-more (entry ∷ records) (first ∷ contents) more content written one = (written.0, written-more records contents more content written.1 one)

-- Contents spell one list of records.
pub one-replay : (contents : List (List ℕ)) (records others : List Record) → SpellRecords records contents → SpellRecords others contents → records ≡ others
one-replay [] [] [] s t = refl
one-replay [] [] (other ∷ others) s t = absurd t
one-replay [] (entry ∷ entries) others s t = absurd s
one-replay (content ∷ contents) [] others s t = absurd s
one-replay (content ∷ contents) (entry ∷ entries) [] s t = absurd t
one-replay (content ∷ contents) (entry ∷ entries) (other ∷ others) s t =
    ap₂ (λ (e : Record) (es : List Record). e ∷ es) (one-record content entry other s.0 t.0) (one-replay contents entries others s.1 t.1)

-- Records that the contents up to a place spell, with one more in front.
first-spelled : (content : List ℕ) (contents : List (List ℕ)) (records : List Record) → SpellRecords records (content ∷ contents)
    → ((entry : Record) × IsReadAs entry content)
first-spelled content contents [] s = absurd s
first-spelled content contents (entry ∷ entries) s = (entry, s.0)

later-spelled : (content : List ℕ) (contents : List (List ℕ)) (records : List Record) → SpellRecords records (content ∷ contents)
    → ((rest : List Record) × SpellRecords rest contents)
later-spelled content contents [] s = absurd s
later-spelled content contents (entry ∷ entries) s = (entries, s.1)

later-bad : (content : List ℕ) (contents : List (List ℕ)) (place : ℕ) → IsFirstBadContent (content ∷ contents) (suc place) → IsFirstBadContent contents place
later-bad content contents place bad =
    let rest = later-spelled content (take place contents) bad.records bad.before in
    record { content = bad.content; there = bad.there; none = bad.none; records = rest.0; before = rest.1 }

first-bad : (content : List ℕ) (contents : List (List ℕ)) → IsFirstBadContent (content ∷ contents) zero → IsNoRecord content
first-bad content contents bad = subst IsNoRecord (sym (Some_inj bad.there)) bad.none

-- Contents that spell records have none that spells none.
pub no-bad : (contents : List (List ℕ)) (records : List Record) (place : ℕ) → SpellRecords records contents → IsFirstBadContent contents place → ⊥
no-bad [] records place s bad = none-some _ bad.there
no-bad (content ∷ contents) records zero s bad =
    let first = first-spelled content contents records s in first-bad content contents bad first.0 first.1
no-bad (content ∷ contents) records (suc place) s bad =
    let rest = later-spelled content contents records s in no-bad contents rest.0 place rest.1 (later-bad content contents place bad)

one-bad : (contents : List (List ℕ)) (place other : ℕ) → IsFirstBadContent contents place → IsFirstBadContent contents other → place ≡ other
one-bad [] place other bad bad_too = absurd (none-some _ bad.there)
one-bad (content ∷ contents) zero zero bad bad_too = refl
one-bad (content ∷ contents) zero (suc other) bad bad_too =
    let first = first-spelled content (take other contents) bad_too.records bad_too.before in absurd (first-bad content contents bad first.0 first.1)
one-bad (content ∷ contents) (suc place) zero bad bad_too =
    let first = first-spelled content (take place contents) bad.records bad.before in absurd (first-bad content contents bad_too first.0 first.1)
one-bad (content ∷ contents) (suc place) (suc other) bad bad_too =
    ap (λ (n : ℕ). suc n) (one-bad contents place other (later-bad content contents place bad) (later-bad content contents other bad_too))

pub one-replay-answer : (contents : List (List ℕ)) → HasOneAnswer (λ records. SpellRecords records contents) (IsFirstBadContent contents)
one-replay-answer contents = record {
  some = some-replay contents;
  one_value = one-replay contents;
  one_fault = one-bad contents;
  not_both = no-bad contents;
}
