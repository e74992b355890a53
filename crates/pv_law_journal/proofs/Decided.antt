-- Bytes are a journal, or they are none, and it shows where.
use Rattle.std.specs.Prelude.{◌≡◌, ◌≢◌, ◌⊎◌, ℕ, suc, ◌<◌, ◌≤◌, List, [], ◌∷◌, ◌++◌, length, take, slice_index}
use Rattle.std.proofs.Common.{inl, inr, ⊎_elim, refl, sym, ◌∙◌, ap, subst, arith, length-append}
use Rattle.std.proofs.lemmas.List.{take_at}
use Rattle.std.proofs.lemmas.Bool.{cases_eq, cases_lt}
use Rattle.pv_disk_model.specs.Size.{Contents}
use Rattle.pv_format.specs.Journal.{header, IsJournal, end_of, IsNotOurs}
use Rattle.pv_law_journal.proofs.Bodies.{body_of}

-- Where bytes first differ from what they are to begin with.
record Differs (expected bytes : List ℕ) (place : ℕ) : Type 0 where
  within : place < length expected
  before : take place bytes ≡ take place expected
  reached : place ≤ length bytes
  wrong : (length bytes ≡ place) ⊎ (slice_index bytes place ≢ slice_index expected place)

differs_later : (byte : ℕ) (expected bytes : List ℕ) (place : ℕ) → Differs expected bytes place → Differs (byte ∷ expected) (byte ∷ bytes) (suc place)
differs_later byte expected bytes place differs = record {
  within = omega (arith, differs.within);
  before = ap (λ (l : List ℕ). byte ∷ l) differs.before;
  reached = omega (arith, differs.reached);
  wrong = ⊎_elim (λ missing. inl (omega (arith, missing))) (λ other. inr other) differs.wrong;
}

begins_or_differs : (expected bytes : List ℕ) → ((body : List ℕ) × (bytes ≡ expected ++ body)) ⊎ ((place : ℕ) × Differs expected bytes place)
begins_or_differs [] bytes = inl (bytes, refl)
begins_or_differs (byte ∷ expected) [] = inr (0, record { within = omega arith; before = refl; reached = omega arith; wrong = inl refl })
begins_or_differs (byte ∷ expected) (other ∷ bytes) = elim (cases_eq other byte) [
  | inr differ ↦ inr (0, record { within = omega arith; before = refl; reached = omega arith; wrong = inr differ })
  | inl same ↦ elim (begins_or_differs expected bytes) [
    | inl begins ↦ inl (begins.0, ap (λ b. b ∷ bytes) same ∙ ap (λ (l : List ℕ). byte ∷ l) begins.1)
    | inr differs ↦ inr (suc differs.0, subst (λ b. Differs (byte ∷ expected) (b ∷ bytes) (suc differs.0)) (sym same) (differs_later byte expected bytes differs.0 differs.1))
  ]
]

-- Bytes are a journal, or they are none, and it shows.
pub journal_or_not : (bytes : List ℕ) → ((contents : Contents) × IsJournal contents bytes) ⊎ ((place : ℕ) × IsNotOurs bytes place)
journal_or_not bytes = elim (begins_or_differs header bytes) [
  | inr differs ↦ inr (
    differs.0,
    inl (record {
      within = omega (arith, differs.1.within);
      before = differs.1.before;
      reached = differs.1.reached;
      wrong = ⊎_elim (λ missing. inl missing) (λ other. inr (differs.1.within, other)) differs.1.wrong;
    }),
  )
  | inl (body, is) ↦ elim (cases_lt 0 (length body)) [
    | inr none ↦ inr (
      8,
      inl (record {
        within = omega arith;
        before = ap (λ (l : List ℕ). take 8 l) is ∙ take_at header body 8 refl;
        reached = omega (arith, ap length is, length-append header body);
        wrong = inl (omega (arith, ap length is, length-append header body, none));
      }),
    )
    | inl some ↦ elim (body_of (length body) body some (omega arith)) [
      | inl (contents, ok) ↦ inl (
        contents,
        record {
          short = ok.short;
          gate = ok.gate;
          rest = ok.rest;
          closed = ok.closed;
          is = is ∙ ap (λ (l : List ℕ). header ++ l) ok.is;
        },
      )
      | inr (contents, cut) ↦ inr (
        end_of contents,
        inr (
          contents,
          record {
            short = cut.short;
            rest = cut.rest;
            is = is ∙ ap (λ (l : List ℕ). header ++ l) cut.is;
            cut = cut.cut;
            place_is = refl;
          },
        ),
      )
    ]
  ]
]
