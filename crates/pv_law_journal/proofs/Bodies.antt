-- What follows the header is records and a closed gate, or a record is cut.
use Rattle.std.specs.Prelude.{◌≡◌, ◌≢◌, ◌⊎◌, ℕ, zero, suc, ◌+◌, ◌^◌, ◌<◌, ◌≤◌, List, [], ◌∷◌, ◌++◌, length, take, drop}
use Rattle.std.specs.Str.{bytes_eq}
use Rattle.std.proofs.Common.{inl, inr, refl, sym, ◌∙◌, ap, subst, arith, append_assoc, length-append, length-take, length-drop}
use Rattle.std.proofs.lemmas.List.{take-append-drop, take_at}
use Rattle.std.proofs.lemmas.List.Elements.{All-nil, All-cons}
use Rattle.std.proofs.lemmas.Bool.{cases_eq, cases_lt, cases_Bool, false≢true}
use Rattle.std.proofs.lemmas.Slice.Eq.{bytes_eq-Decides}
use Rattle.pv_base.specs.BigEndian.{big_endian, number_of}
use Rattle.pv_base.proofs.BigEndianLemmas.{length-big_endian, number_of-big_endian}
use Rattle.pv_disk_model.specs.Size.{Contents}
use Rattle.pv_format.specs.Journal.{framed, records_of, AreShort, IsCut}

-- What follows the header of a journal: records, and a closed gate.
pub record IsBody (contents : Contents) (body : List ℕ) : Type 0 where
  pub short : AreShort contents
  pub gate : ℕ
  pub rest : List ℕ
  pub closed : gate ≢ 1
  pub is : body ≡ records_of contents ++ gate ∷ rest

-- What follows the header where a record is cut.
pub record IsCutBody (contents : Contents) (body : List ℕ) : Type 0 where
  pub short : AreShort contents
  pub rest : List ℕ
  pub cut : IsCut rest
  pub is : body ≡ records_of contents ++ 1 ∷ rest

-- A whole record comes after an open gate, and a gate after it.
pub record HasFrame (rest : List ℕ) : Type 0 where
  pub content : List ℕ
  pub gate : ℕ
  pub more : List ℕ
  pub short : length content < 2 ^ 32
  pub is : rest ≡ framed content ++ gate ∷ more

pub first_and_rest : (bytes : List ℕ) → 0 < length bytes → (first : ℕ) × (rest : List ℕ) × (bytes ≡ first ∷ rest)
first_and_rest [] some = absurd (omega arith)
first_and_rest (first ∷ rest) some = (first, rest, refl)

-- How long the bytes are that begin with a frame, and what the first four spell.
pub frame_length : (rest content more : List ℕ) (gate : ℕ) → length content < 2 ^ 32 → rest ≡ framed content ++ gate ∷ more
    → (take 4 rest ≡ big_endian 4 (length content)) × (number_of (take 4 rest) ≡ length content) × (length rest ≡ 5 + length content + length more)
frame_length rest content more gate short is =
    let number = big_endian 4 (length content) in
    let size : length number ≡ 4 = length-big_endian 4 (length content) in
    let split : rest ≡ number ++ (content ++ gate ∷ more) = is ∙ append_assoc number content (gate ∷ more) in
    let front : take 4 rest ≡ number = ap (λ (l : List ℕ). take 4 l) split ∙ take_at number (content ++ gate ∷ more) 4 size in (
      front,
      ap number_of front ∙ number_of-big_endian 4 (length content) short,
      omega (arith, ap length split, length-append number (content ++ gate ∷ more), length-append content (gate ∷ more), size),
    )

module _ (rest : List ℕ) where
  told : ℕ
  told = number_of (take 4 rest)

  whole : told < 2 ^ 32 → 4 + told < length rest → take 4 rest ≡ big_endian 4 told → HasFrame rest
  unfolding told
  whole short long spelled =
      let n = number_of (take 4 rest) in
      let behind = drop 4 rest in
      let content = take n behind in
      let size : length content ≡ n = omega (arith, length-take n behind, length-drop 4 rest) in
      let tail = first_and_rest (drop n behind) (omega (arith, length-drop n behind, length-drop 4 rest)) in
      record {
        content = content;
        gate = tail.0;
        more = tail.1;
        short = omega (arith, size);
        is =
            let number : take 4 rest ≡ big_endian 4 (length content) = spelled ∙ ap (big_endian 4) (sym size) in
            let after : drop 4 rest ≡ content ++ tail.0 ∷ tail.1 = sym (take-append-drop n behind) ∙ ap (λ (l : List ℕ). content ++ l) tail.2 in
            let parts : rest ≡ big_endian 4 (length content) ++ (content ++ tail.0 ∷ tail.1) = rw (← number, ← after) (sym (take-append-drop 4 rest)) in
            parts ∙ sym (append_assoc (big_endian 4 (length content)) content (tail.0 ∷ tail.1));
      }

  pub frame_of : HasFrame rest ⊎ IsCut rest
  unfolding told
  frame_of =
      let n = number_of (take 4 rest) in
      elim (cases_lt n (2 ^ 32)) [
        | inr large ↦ inr (λ content more gate short is. absurd (omega (arith, (frame_length rest content more gate short is).1)))
        | inl small ↦ elim (cases_lt (4 + n) (length rest)) [
          | inr cut ↦ inr (λ content more gate short is.
              let parts = frame_length rest content more gate short is in absurd (omega (arith, parts.1, parts.2)))
          | inl long ↦ elim (cases_Bool (bytes_eq (take 4 rest) (big_endian 4 n))) [
            | inl same ↦ inl (whole small long ((bytes_eq-Decides (take 4 rest) (big_endian 4 n)).0 same))
            | inr differ ↦ inr (λ content more gate short is.
                let parts = frame_length rest content more gate short is in
                let spelled : take 4 rest ≡ big_endian 4 n = parts.0 ∙ ap (big_endian 4) (sym parts.1) in
                false≢true (sym differ ∙ (bytes_eq-Decides (take 4 rest) (big_endian 4 n)).1 spelled))
          ]
        ]
      ]

abbrev pub BodyOrCut : List ℕ → Type 0
BodyOrCut body = ((contents : Contents) × IsBody contents body) ⊎ ((contents : Contents) × IsCutBody contents body)

-- One more record before a body.
more_body : (content : List ℕ) (rest body : List ℕ) → length content < 2 ^ 32 → rest ≡ framed content ++ body → BodyOrCut body → BodyOrCut (1 ∷ rest)
more_body content rest body short is (inl (contents, ok)) = inl (
  content ∷ contents,
  record {
    short = All-cons (λ c. length c < 2 ^ 32) content contents short ok.short;
    gate = ok.gate;
    rest = ok.rest;
    closed = ok.closed;
    is = ap (λ (l : List ℕ). 1 ∷ l) (is ∙ ap (λ (l : List ℕ). framed content ++ l) ok.is ∙ sym (append_assoc (framed content) (records_of contents) (ok.gate ∷ ok.rest)));
  },
)
more_body content rest body short is (inr (contents, cut)) = inr (
  content ∷ contents,
  record {
    short = All-cons (λ c. length c < 2 ^ 32) content contents short cut.short;
    rest = cut.rest;
    cut = cut.cut;
    is = ap (λ (l : List ℕ). 1 ∷ l) (is ∙ ap (λ (l : List ℕ). framed content ++ l) cut.is ∙ sym (append_assoc (framed content) (records_of contents) (1 ∷ cut.rest)));
  },
)

pub body_of : (fuel : ℕ) (body : List ℕ) → 0 < length body → length body ≤ fuel → BodyOrCut body
body_of zero body some le = absurd (omega arith)
body_of (suc fuel) [] some le = absurd (omega arith)
body_of (suc fuel) (gate ∷ rest) some le = elim (cases_eq gate 1) [
  | inr closed ↦ inl ([], record { short = All-nil (λ c. length c < 2 ^ 32); gate = gate; rest = rest; closed = closed; is = refl })
  | inl opened ↦ subst (λ g. BodyOrCut (g ∷ rest)) (sym opened) (elim (frame_of rest) [
    | inr cut ↦ inr ([], record { short = All-nil (λ c. length c < 2 ^ 32); rest = rest; cut = cut; is = refl })
    | inl frame ↦
        let size = (frame_length rest frame.content frame.more frame.gate frame.short frame.is).2 in
        more_body frame.content rest (frame.gate ∷ frame.more) frame.short frame.is (body_of fuel (frame.gate ∷ frame.more) (omega arith) (omega (arith, size)))
  ])
]
