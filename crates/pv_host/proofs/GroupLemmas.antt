-- Records behind a gate, and how a group of them is parted from the others.
use Rattle.std.proofs.Common.{All, ◌≡◌, ◌≢◌, ℕ, ◌+◌, ◌-◌, ◌<◌, ◌≤◌, ◌^◌, nat_le, Bool, true, false, if◌then◌else◌, List, [], ◌∷◌, ◌++◌, length, take, drop, set, arith, refl, sym, ◌∙◌, ap, append_assoc, append-nil, length-append}
use Rattle.std.proofs.lemmas.List.{set_at, take_at, drop_at}
use Rattle.std.proofs.lemmas.List.Elements.{All-nil, All-cons, All-head, All-tail}
use Rattle.std.proofs.lemmas.Bool.Decides.{nat_tests}
use Rattle.std.proofs.lemmas.Grind.{flat_map-append}
use Rattle.pv_base.specs.BigEndian.{big_endian}
use Rattle.pv_base.proofs.BigEndianLemmas.{big_endian-injective, length-big_endian}
use Rattle.pv_disk_model.specs.Size.{Contents}
use Rattle.pv_format.specs.Journal.{AreShort, framed, record_of, records_of}
use Rattle.pv_law_journal.proofs.SizeLemmas.{length-framed}
use Rattle.pv_host.specs.HostLog.{behind_gate_of, beyond, fitting, group_of, left_of}

-- What stands before the last gate of some records that begin with this one.
abbrev before_last : List ℕ → Contents → List ℕ
before_last first later = framed first ++ records_of later

-- the gate before some records, and then they
abbrev gate_of : Contents → ℕ
gate_of [] = 0
gate_of (first ∷ later) = 1

gate-first : (left : Contents) → records_of left ++ 0 ∷ [] ≡ gate_of left ∷ behind_gate_of left
gate-first [] = refl
gate-first (first ∷ later) = append_assoc (1 ∷ framed first) (records_of later) (0 ∷ [])

-- As long as they are with a gate before each.
pub length-behind : (contents : Contents) → length (behind_gate_of contents) ≡ length (records_of contents)
length-behind [] = refl
length-behind (first ∷ later) =
    omega (arith, length-append (framed first) (records_of later ++ 0 ∷ []), length-append (records_of later) (0 ∷ []), length-append (record_of first) (records_of later))

pub length-before : (first : List ℕ) (later : Contents) → length (before_last first later) + 1 ≡ length (records_of (first ∷ later))
length-before first later = omega (arith, length-append (framed first) (records_of later), length-append (record_of first) (records_of later))

-- Some records and others after them.
behind-both : (first : List ℕ) (later left : Contents) → behind_gate_of (first ∷ later ++ left) ≡ before_last first later ++ gate_of left ∷ behind_gate_of left
behind-both first later left =
    ap (λ (l : List ℕ). framed first ++ (l ++ 0 ∷ [])) (flat_map-append record_of later left)
    ∙ ap (λ (l : List ℕ). framed first ++ l) (append_assoc (records_of later) (records_of left) (0 ∷ []))
    ∙ ap (λ (l : List ℕ). framed first ++ (records_of later ++ l)) (gate-first left)
    ∙ sym (append_assoc (framed first) (records_of later) (gate_of left ∷ behind_gate_of left))

behind-one : (first : List ℕ) (later : Contents) → behind_gate_of (first ∷ later) ≡ before_last first later ++ 0 ∷ []
behind-one first later = sym (append_assoc (framed first) (records_of later) (0 ∷ []))

-- What comes after the first ones.
pub behind-left : (asked left : Contents) → asked ≢ [] → drop (length (records_of asked)) (behind_gate_of (asked ++ left)) ≡ behind_gate_of left
behind-left [] left some = absurd (some refl)
behind-left (first ∷ later) left some =
    let front = before_last first later in
    let cut : behind_gate_of (first ∷ later ++ left) ≡ (front ++ gate_of left ∷ []) ++ behind_gate_of left =
    behind-both first later left ∙ sym (append_assoc front (gate_of left ∷ []) (behind_gate_of left)) in
    let long : length (front ++ gate_of left ∷ []) ≡ length (records_of (first ∷ later)) =
    omega (arith, length-append front (gate_of left ∷ []), length-before first later) in
    ap (drop (length (records_of (first ∷ later)))) cut ∙ drop_at (front ++ gate_of left ∷ []) (behind_gate_of left) (length (records_of (first ∷ later))) long

-- A group is parted from the others by closing its last gate.
pub group-closed : (asked left : Contents) → asked ≢ []
    → set (behind_gate_of (asked ++ left)) (length (records_of asked) - 1) 0 ≡ behind_gate_of asked ++ behind_gate_of left
group-closed [] left some = absurd (some refl)
group-closed (first ∷ later) left some =
    let front = before_last first later in
    let long : length front ≡ length (records_of (first ∷ later)) - 1 = omega (arith, length-before first later) in
    ap (λ (l : List ℕ). set l (length (records_of (first ∷ later)) - 1) 0) (behind-both first later left)
    ∙ set_at front (gate_of left) (behind_gate_of left) 0 (length (records_of (first ∷ later)) - 1) long
    ∙ sym (append_assoc front (0 ∷ []) (behind_gate_of left))
    ∙ ap (λ (l : List ℕ). l ++ behind_gate_of left) (sym (behind-one first later))

-- One record more, where others wait: their last gate is opened.
pub record-added : (front : List ℕ) (pending : Contents) (content : List ℕ) → pending ≢ []
    → set (front ++ behind_gate_of pending) (length (front ++ behind_gate_of pending) - 1) 1 ++ (framed content ++ 0 ∷ [])
    ≡ front ++ behind_gate_of (pending ++ content ∷ [])
record-added front [] content some = absurd (some refl)
record-added front (first ∷ later) content some =
    let middle = before_last first later in
    let all : front ++ behind_gate_of (first ∷ later) ≡ (front ++ middle) ++ 0 ∷ [] =
    ap (λ (l : List ℕ). front ++ l) (behind-one first later) ∙ sym (append_assoc front middle (0 ∷ [])) in
    let long : length (front ++ middle) ≡ length (front ++ behind_gate_of (first ∷ later)) - 1 = omega (arith, ap length all, length-append (front ++ middle) (0 ∷ [])) in
    let opened : set (front ++ behind_gate_of (first ∷ later)) (length (front ++ behind_gate_of (first ∷ later)) - 1) 1 ≡ (front ++ middle) ++ 1 ∷ [] =
    ap (λ (l : List ℕ). set l (length (front ++ behind_gate_of (first ∷ later)) - 1) 1) all
    ∙ set_at (front ++ middle) 0 [] 1 (length (front ++ behind_gate_of (first ∷ later)) - 1) long in
    ap (λ (l : List ℕ). l ++ (framed content ++ 0 ∷ [])) opened
    ∙ append_assoc (front ++ middle) (1 ∷ []) (framed content ++ 0 ∷ [])
    ∙ append_assoc front middle (1 ∷ (framed content ++ 0 ∷ []))
    ∙ ap (λ (l : List ℕ). front ++ l) (sym (behind-both first later (content ∷ [])))

-- One record more, where no other waits.
pub record-alone : (front : List ℕ) (pending : Contents) (content : List ℕ) → pending ≡ []
    → (front ++ behind_gate_of pending) ++ (framed content ++ 0 ∷ []) ≡ front ++ behind_gate_of (pending ++ content ∷ [])
record-alone front pending content none =
    ap (λ (l : Contents). (front ++ behind_gate_of l) ++ (framed content ++ 0 ∷ [])) none ∙ ap (λ (l : List ℕ). l ++ (framed content ++ 0 ∷ [])) (append-nil front)
    ∙ ap (λ (l : Contents). front ++ behind_gate_of (l ++ content ∷ [])) (sym none)

-- ## Groups
parted-by : (room : ℕ) (first : List ℕ) (later : Contents) (fits : Bool) → fitting room later ++ beyond room later ≡ later
    → (if fits then first ∷ fitting room later else []) ++ (if fits then beyond room later else first ∷ later) ≡ first ∷ later
parted-by room first later true rest = ap (λ (l : Contents). first ∷ l) rest
parted-by room first later false rest = refl

fitting-all : (room : ℕ) (contents : Contents) → fitting room contents ++ beyond room contents ≡ contents
fitting-all room [] = refl
fitting-all room (first ∷ later) = parted-by (room - (5 + length first)) first later (nat_le (5 + length first) room) (fitting-all (room - (5 + length first)) later)

-- Nothing is lost.
pub group-all : (room : ℕ) (contents : Contents) → group_of room contents ++ left_of room contents ≡ contents
group-all room [] = refl
group-all room (first ∷ later) = ap (λ (l : Contents). first ∷ l) (fitting-all (room - (5 + length first)) later)

pub group-some : (room : ℕ) (contents : Contents) → contents ≢ [] → group_of room contents ≢ []
group-some room [] some = some
group-some room (first ∷ later) some = λ none. cc

pub group-within : (room : ℕ) (contents : Contents) → length (records_of (group_of room contents)) ≤ length (behind_gate_of contents)
group-within room contents =
    let all = ap (λ (l : Contents). length (records_of l)) (group-all room contents) in
    omega (
      arith,
      length-behind contents,
      all,
      ap length (flat_map-append record_of (group_of room contents) (left_of room contents)),
      length-append (records_of (group_of room contents)) (records_of (left_of room contents)),
    )

-- What is true of each of two lists together is true of each of both.
pub all-parts : {X : Type 0} (P : X → Type 0) (xs ys : List X) → All P (xs ++ ys) → All P xs × All P ys
all-parts P [] ys all = (All-nil P, all)
all-parts P (x ∷ xs) ys all =
    let rest = all-parts P xs ys (All-tail P x (xs ++ ys) all) in (All-cons P x xs (All-head P x (xs ++ ys) all) rest.0, rest.1)

pub short-parts : (xs ys : Contents) → AreShort (xs ++ ys) → AreShort xs × AreShort ys
short-parts xs ys shorts = all-parts (λ (content : List ℕ). length content < 2 ^ 32) xs ys shorts

fitting-more : (room : ℕ) (first : List ℕ) (later : Contents) → 5 + length first ≤ room
    → (fitting room (first ∷ later) ≡ first ∷ fitting (room - (5 + length first)) later) × (beyond room (first ∷ later) ≡ beyond (room - (5 + length first)) later)
fitting-more room first later le =
    let fits : nat_le (5 + length first) room ≡ true = grind (arith, nat_tests, le) in (
      ap (λ (b : Bool). if b then first ∷ fitting (room - (5 + length first)) later else []) fits,
      ap (λ (b : Bool). if b then beyond (room - (5 + length first)) later else first ∷ later) fits,
    )

fitting-none : (room : ℕ) (first : List ℕ) (later : Contents) → room < 5 + length first
    → (fitting room (first ∷ later) ≡ []) × (beyond room (first ∷ later) ≡ first ∷ later)
fitting-none room first later less =
    let no : nat_le (5 + length first) room ≡ false = grind (arith, nat_tests, less) in (
      ap (λ (b : Bool). if b then first ∷ fitting (room - (5 + length first)) later else []) no,
      ap (λ (b : Bool). if b then beyond (room - (5 + length first)) later else first ∷ later) no,
    )

-- With no room a group is the first record alone.
pub fitting-nothing : (contents : Contents) → fitting 0 contents ≡ []
fitting-nothing [] = refl
fitting-nothing (first ∷ later) = (fitting-none 0 first later (omega arith)).0

-- So many bytes of the records, and so many records, are in the group for sure, and it goes on with those of the others that have the rest of the room.
pub record IsGroupSoFar (room : ℕ) (pending : Contents) (size count : ℕ) (asked left : Contents) : Type 0 where
  pub all : pending ≡ asked ++ left
  pub some : asked ≢ []
  pub size_is : size ≡ length (records_of asked)
  pub count_is : count ≡ length asked
  pub group : group_of room pending ≡ asked ++ fitting (room - size) left
  pub rest : left_of room pending ≡ beyond (room - size) left

pub first-grouped : (room : ℕ) (first : List ℕ) (later : Contents) → IsGroupSoFar room (first ∷ later) (5 + length first) 1 (first ∷ []) later
first-grouped room first later = record {
  all = refl;
  some = λ is. cc;
  size_is = omega (arith, length-framed first, length-append (record_of first) []);
  count_is = refl;
  group = refl;
  rest = refl;
}

module _ (room : ℕ) (pending : Contents) (size count : ℕ) (asked left : Contents) (so_far : IsGroupSoFar room pending size count asked left) where
  pub grouped-rest : drop size (behind_gate_of pending) ≡ behind_gate_of left
  grouped-rest =
      ap (λ (n : ℕ). drop n (behind_gate_of pending)) so_far.size_is ∙ ap (λ (l : Contents). drop (length (records_of asked)) (behind_gate_of l)) so_far.all
      ∙ behind-left asked left so_far.some

  pub one-more-grouped : (first : List ℕ) (later : Contents) → left ≡ first ∷ later → size + (5 + length first) ≤ room
      → IsGroupSoFar room pending (size + (5 + length first)) (count + 1) (asked ++ first ∷ []) later
  one-more-grouped first later is fits =
      let more = fitting-more (room - size) first later (omega (arith, fits)) in
      let less : room - size - (5 + length first) ≡ room - (size + (5 + length first)) = omega arith in
      record {
        all = so_far.all ∙ ap (λ (l : Contents). asked ++ l) is ∙ sym (append_assoc asked (first ∷ []) later);
        some = λ none. let long : length (asked ++ first ∷ []) ≡ 0 = ap length none in absurd (omega (arith, long, length-append asked (first ∷ [])));
        size_is =
            omega (
              arith,
              so_far.size_is,
              ap length (flat_map-append record_of asked (first ∷ [])),
              length-append (records_of asked) (records_of (first ∷ [])),
              length-append (record_of first) [],
              length-framed first,
            );
        count_is = omega (arith, so_far.count_is, length-append asked (first ∷ []));
        group =
            so_far.group ∙ ap (λ (l : Contents). asked ++ fitting (room - size) l) is ∙ ap (λ (l : Contents). asked ++ l) more.0
            ∙ ap (λ (n : ℕ). asked ++ first ∷ fitting n later) less ∙ sym (append_assoc asked (first ∷ []) (fitting (room - (size + (5 + length first))) later));
        rest = so_far.rest ∙ ap (λ (l : Contents). beyond (room - size) l) is ∙ more.1 ∙ ap (λ (n : ℕ). beyond n later) less;
      }

  -- The next one has no room, or there is none.
  pub all-grouped : (first : List ℕ) (later : Contents) → left ≡ first ∷ later → room < size + (5 + length first)
      → (group_of room pending ≡ asked) × (left_of room pending ≡ left)
  all-grouped first later is less =
      let none = fitting-none (room - size) first later (omega (arith, less)) in (
        so_far.group ∙ ap (λ (l : Contents). asked ++ fitting (room - size) l) is ∙ ap (λ (l : Contents). asked ++ l) none.0 ∙ append-nil asked,
        so_far.rest ∙ ap (λ (l : Contents). beyond (room - size) l) is ∙ none.1 ∙ sym is,
      )

  pub none-left : left ≡ [] → (group_of room pending ≡ asked) × (left_of room pending ≡ left)
  none-left is =
      (so_far.group ∙ ap (λ (l : Contents). asked ++ fitting (room - size) l) is ∙ append-nil asked, so_far.rest ∙ ap (λ (l : Contents). beyond (room - size) l) is ∙ sym is)

-- ## What the bytes tell
pub some-behind : (contents : Contents) → 0 < length (behind_gate_of contents) → (first : List ℕ) × ((later : Contents) × (contents ≡ first ∷ later))
some-behind [] some = absurd (omega (arith, some))
some-behind (first ∷ later) some = (first, (later, refl))

pub none-behind : (contents : Contents) → length (behind_gate_of contents) ≡ 0 → contents ≡ []
none-behind [] none = refl
none-behind (first ∷ later) none = absurd (omega (arith, none, length-append (framed first) (records_of later ++ 0 ∷ []), length-framed first))

pub long-behind : (contents : Contents) → contents ≢ [] → 5 ≤ length (behind_gate_of contents)
long-behind [] some = absurd (some refl)
long-behind (first ∷ later) some =
    omega (arith, length-append (framed first) (records_of later ++ 0 ∷ []), length-framed first, length-append (records_of later) (0 ∷ []))

-- A length is read where it was written.
pub length-read : (bytes content more : List ℕ) (number : ℕ) → bytes ≡ framed content ++ more → number < 2 ^ 32 → length content < 2 ^ 32
    → big_endian 4 number ≡ take 4 bytes → 5 + number ≡ 5 + length content
length-read bytes content more number is small short read =
    let front : take 4 bytes ≡ big_endian 4 (length content) =
    ap (take 4) (is ∙ append_assoc (big_endian 4 (length content)) content more)
    ∙ take_at (big_endian 4 (length content)) (content ++ more) 4 (length-big_endian 4 (length content)) in
    ap (λ (n : ℕ). 5 + n) (big_endian-injective 4 number (length content) small short (read ∙ front))
