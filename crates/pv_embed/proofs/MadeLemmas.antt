-- What is held of the steps, as it grows and is let out.
use Rattle.std.proofs.Common.{◌≡◌, ◌≢◌, ℕ, ◌<◌, ◌≤◌, List, [], ◌∷◌, ◌++◌, Option, Some, None, All, map, length, get_or, set, drop, refl, sym, ◌∙◌, ap, subst, append-nil, length-append, arith}
use Rattle.std.specs.Prelude.{IfSome, flat_map, slice_get}
use Rattle.std.specs.Option.{option_map}
use Rattle.std.specs.Vec.Iter.{into_iter_items}
use Rattle.std.proofs.lemmas.Grind.{flat_map-append}
use Rattle.std.proofs.lemmas.List.{length-map}
use Rattle.std.proofs.lemmas.List.Elements.{All-nil, All-head, All-tail, All-append, All-cons}
use Rattle.pv_protocol.specs.State as model
use Rattle.pv_site.specs.Inputs.{IsSpelledFrom}
use Rattle.pv_site.specs.Values.{outgoing_of, note_of}
use Rattle.pv_site.specs.declared.input.Outgoing.{Outgoing}
use Rattle.pv_embed.specs.Held.{Held, Out, message, note}
use Rattle.pv_embed.specs.Outputs.{AreSpelled, IsSpelled, TakesFirst, TakesFrom, held_of, out_of, outputs_of, outs}
use Rattle.pv_embed.specs.Requests.{begun_first, begun_in}
use Rattle.pv_embed.specs.declared.made.Made.{Made}
use Rattle.pv_embed.specs.declared.made.Output.{Output}

-- Where nothing is left to let out, no message is.
pub no_sends : (from : ℕ) (made : Made) → outputs_of from made ≡ [] → length (into_iter_items made.sends) ≡ 0
no_sends from made none =
    let sends = map outgoing_of (into_iter_items made.sends) in
    let messages = map (λ (sent : model.Outgoing). message (record { from = from; to = sent.to; message = sent.message })) sends in
    omega (
      arith,
      ap length none,
      length-append messages (map note (map note_of (into_iter_items made.notes))),
      length-map sends (λ (sent : model.Outgoing). message (record { from = from; to = sent.to; message = sent.message })),
      length-map (into_iter_items made.sends) outgoing_of,
    )

-- What is held of a step that comes last.
pub held-more : (from : ℕ) (items : List Made) (made : Made) → flat_map (held_of from) (items ++ made ∷ []) ≡ flat_map (held_of from) items ++ held_of from made
held-more from items made =
    flat_map-append (held_of from) items (made ∷ []) ∙ ap (λ (l : List Held). flat_map (held_of from) items ++ l) (append-nil (held_of from made))

-- A step of which nothing is held.
pub held-none : (from : ℕ) (items : List Made) (made : Made) → outputs_of from made ≡ [] → flat_map (held_of from) items ≡ flat_map (held_of from) items ++ held_of from made
held-none from items made none =
    sym (ap (λ (outs : List Out). flat_map (held_of from) items ++ map (λ out. record { length = made.length; out = out }) outs) none ∙ append-nil (flat_map (held_of from) items))

pub all-more : (P : Made → Type 0) (items : List Made) (made : Made) → All P items → P made → All P (items ++ made ∷ [])
all-more P items made kept more = All-append P items (made ∷ []) kept (All-cons P made [] more (All-nil P))

-- The log isn't in the file as far as it was when the first outputs were made.
not_yet : (stored length : ℕ) (outs : List Out) (later : List Held) → outs ≢ [] → stored < length
    → TakesFrom stored (map (λ out. record { length = length; out = out }) outs ++ later) (map (λ out. record { length = length; out = out }) outs ++ later) None
not_yet stored length [] later some longer = absurd (some refl)
not_yet stored length (out ∷ outs) later some longer = (longer, refl)

-- It is, and the first of them is taken.
taken_one : (stored length : ℕ) (outs left : List Out) (later : List Held) (output : Option Output) → outs ≢ [] → length ≤ stored → TakesFirst outs left output
    → TakesFrom stored (map (λ out. record { length = length; out = out }) outs ++ later) (map (λ out. record { length = length; out = out }) left ++ later) output
taken_one stored length outs left later None some within takes = absurd (some takes.0)
taken_one stored length [] left later (Some output) some within takes = absurd (some refl)
taken_one stored length (out ∷ outs) left later (Some output) some within takes =
    let is : out ∷ outs ≡ out_of output ∷ left = takes in
    let first : out_of output ≡ out = cc in
    let others : left ≡ outs = cc in
    (within, first, ap (λ (l : List Out). map (λ out. record { length = length; out = out }) l ++ later) others)

module _ (me stored : ℕ) where
  -- nothing is taken
  pub none_taken : (items : List Made) (first : Made) → first ≡ get_or items 0 first → All (λ each. outputs_of me each ≢ []) items → stored < first.length
      → TakesFrom stored (flat_map (held_of me) items) (flat_map (held_of me) (set items 0 first)) None
  none_taken [] first is some longer = (refl, refl)
  none_taken (made ∷ later) first is some longer =
      let more : stored < made.length = subst (λ (m : Made). stored < m.length) is longer in
      subst (λ (m : Made). TakesFrom stored (flat_map (held_of me) (made ∷ later)) (held_of me m ++ flat_map (held_of me) later) None) (sym is)
      (not_yet stored made.length (outputs_of me made) (flat_map (held_of me) later) (All-head (λ each. outputs_of me each ≢ []) made later some) more)

  -- one is taken, and of its step others are left
  pub one_taken : (items : List Made) (first after : Made) (output : Option Output) → 0 < length items → first ≡ get_or items 0 first
      → All (λ each. outputs_of me each ≢ []) items → first.length ≤ stored → after.length ≡ first.length → TakesFirst (outputs_of me first) (outputs_of me after) output
      → TakesFrom stored (flat_map (held_of me) items) (flat_map (held_of me) (set items 0 after)) output
  one_taken [] first after output there is some within same takes = absurd (omega (arith, there))
  one_taken (made ∷ later) first after output there is some within same takes =
      let as_long : after.length ≡ made.length = same ∙ ap (λ (m : Made). m.length) is in
      let least : made.length ≤ stored = subst (λ (m : Made). m.length ≤ stored) is within in
      let first_taken : TakesFirst (outputs_of me made) (outputs_of me after) output = subst (λ (m : Made). TakesFirst (outputs_of me m) (outputs_of me after) output) is takes in
      subst (λ n. TakesFrom stored (flat_map (held_of me) (made ∷ later)) (map (λ out. record { length = n; out = out }) (outputs_of me after) ++ flat_map (held_of me) later) output)
      (sym as_long)
      (taken_one stored made.length (outputs_of me made) (outputs_of me after) (flat_map (held_of me) later) output
      (All-head (λ each. outputs_of me each ≢ []) made later some) least first_taken)

  -- one is taken, the last of its step
  pub last_taken : (items rest : List Made) (first after : Made) (output : Option Output) → 0 < length items → first ≡ get_or items 0 first
      → All (λ each. outputs_of me each ≢ []) items → first.length ≤ stored → after.length ≡ first.length → TakesFirst (outputs_of me first) (outputs_of me after) output
      → outputs_of me after ≡ [] → rest ≡ drop 1 (set items 0 after) → TakesFrom stored (flat_map (held_of me) items) (flat_map (held_of me) rest) output
  last_taken [] rest first after output there is some within same takes none left = absurd (omega (arith, there))
  last_taken (made ∷ later) rest first after output there is some within same takes none left =
      let taken = one_taken (made ∷ later) first after output there is some within same takes in
      let gone : flat_map (held_of me) rest ≡ flat_map (held_of me) (after ∷ later) =
      ap (flat_map (held_of me)) left
      ∙ sym (ap (λ (outs : List Out). map (λ out. record { length = after.length; out = out }) outs ++ flat_map (held_of me) later) none) in
      subst (λ (l : List Held). TakesFrom stored (flat_map (held_of me) (made ∷ later)) l output) (sym gone) taken

-- what stands in each of them stands in each of the later ones
pub all-later : (P : Made → Type 0) (items rest : List Made) (after : Made) → All P items → rest ≡ drop 1 (set items 0 after) → All P rest
all-later P [] rest after kept left = subst (All P) (sym left) (All-nil P)
all-later P (made ∷ later) rest after kept left = subst (All P) (sym left) (All-tail P made later kept)

-- and where the first is another one that has it too
pub all-after : (P : Made → Type 0) (items : List Made) (after : Made) → All P items → P after → All P (set items 0 after)
all-after P [] after kept more = All-nil P
all-after P (made ∷ later) after kept more = All-cons P after later more (All-tail P made later kept)

-- The first of what is held has the length of the first step.
first_of : (length : ℕ) (outs : List Out) (later : List Held) → outs ≢ []
    → Some length ≡ option_map (λ (held : Held). held.length) (slice_get (map (λ out. record { length = length; out = out }) outs ++ later) 0)
first_of length [] later some = absurd (some refl)
first_of length (out ∷ outs) later some = refl

pub held_first : (me : ℕ) (items : List Made) (first : Made) → first ≡ get_or items 0 first → 0 < length items → All (λ each. outputs_of me each ≢ []) items
    → Some first.length ≡ option_map (λ (held : Held). held.length) (slice_get (flat_map (held_of me) items) 0)
held_first me [] first is there some = absurd (omega (arith, there))
held_first me (made ∷ later) first is there some =
    ap (λ (m : Made). Some m.length) is ∙ first_of made.length (outputs_of me made) (flat_map (held_of me) later) (All-head (λ each. outputs_of me each ≢ []) made later some)

-- Where each message that is held has a spelling, so has each that is left, and the one that is let out.
pub left_spelled : (stored : ℕ) (old new : List Held) (result : Option Output) → TakesFrom stored old new result → AreSpelled old → AreSpelled new
left_spelled stored [] new result takes spelled = subst AreSpelled (sym takes.1) spelled
left_spelled stored (first ∷ later) new None takes spelled = subst AreSpelled (sym takes.1) spelled
left_spelled stored (first ∷ later) new (Some output) takes spelled = subst AreSpelled (sym takes.2) (All-tail (λ (one : Held). IsSpelled one.out) first later spelled)

pub out_spelled : (stored : ℕ) (old new : List Held) (result : Option Output) → TakesFrom stored old new result → AreSpelled old
    → IfSome result (λ output. IsSpelled (out_of output))
out_spelled stored [] new None takes spelled = tt
out_spelled stored [] new (Some output) takes spelled = let none : Some output ≡ None = takes.0 in cc
out_spelled stored (first ∷ later) new None takes spelled = tt
out_spelled stored (first ∷ later) new (Some output) takes spelled =
    subst IsSpelled (sym takes.1) (All-head (λ (one : Held). IsSpelled one.out) first later spelled)

pub ruleset takes_spelled = (left_spelled, out_spelled)

-- What a step sends and reports is held with a spelling for each message, where each that it sends has one.
notes_spelled : (length : ℕ) (notes : List model.Note) → AreSpelled (map (λ out. record { length = length; out = out }) (map note notes))
notes_spelled length [] = All-nil (λ (one : Held). IsSpelled one.out)
notes_spelled length (first ∷ notes) =
    All-cons (λ (one : Held). IsSpelled one.out) (record { length = length; out = note first }) (map (λ out. record { length = length; out = out }) (map note notes)) tt
    (notes_spelled length notes)

pub made_spelled : (me length : ℕ) (sends : List Outgoing) (notes : List model.Note) → All (IsSpelledFrom me) sends
    → AreSpelled (map (λ out. record { length = length; out = out }) (outs me (map outgoing_of sends) notes))
made_spelled me length [] notes spelled = notes_spelled length notes
made_spelled me length (sent ∷ sends) notes spelled =
    All-cons (λ (one : Held). IsSpelled one.out)
    (record { length = length; out = message (record { from = me; to = (outgoing_of sent).to; message = (outgoing_of sent).message }) })
    (map (λ out. record { length = length; out = out }) (outs me (map outgoing_of sends) notes)) (All-head (IsSpelledFrom me) sent sends spelled)
    (made_spelled me length sends notes (All-tail (IsSpelledFrom me) sent sends spelled))

-- What a step sends comes before what it reports: so the first report is the first of the step's.
begun-notes : (length : ℕ) (notes : List model.Note) → begun_in (map (λ out. record { length = length; out = out }) (map note notes)) ≡ begun_first notes
begun-notes length [] = refl
begun-notes length (first ∷ notes) = refl

pub begun-made : (me length : ℕ) (sends : List model.Outgoing) (notes : List model.Note)
    → begun_in (map (λ out. record { length = length; out = out }) (outs me sends notes)) ≡ begun_first notes
begun-made me length [] notes = begun-notes length notes
begun-made me length (sent ∷ sends) notes = begun-made me length sends notes
