-- What clients are told, note by note.
use Rattle.std.proofs.Common.{◌≡◌, ℕ, ◌==◌, Bool, true, false, if◌then◌else◌, Option, Some, List, [], ◌∷◌, ◌++◌, refl, sym, ap, subst}
use Rattle.pv_post.specs.declared.outlet.Out.{Out}
use Rattle.pv_protocol.specs.Lines.{Line}
use Rattle.pv_protocol.specs.State.{Note}
use Rattle.pv_rings.proofs.RingLemmas.{handed-at, handed-then, none-handed}
use Rattle.pv_mail.specs.Answers.{AllTell, Says, Told, asker_after, begun_after, begun_after_all, told, told_of, told_of_all, told_to}
use Rattle.pv_mail.specs.Telling.{TellsAll, TellsOne}
use Rattle.pv_mail.specs.declared.answer.Answer.{Answer}
use Rattle.pv_mail.specs.declared.answer.What.{What}
use Rattle.pv_mail.specs.declared.asked.Asker.{Asker}
use Rattle.pv_mail.specs.declared.asked.Begun.{Begun}
use Rattle.pv_mail.proofs.ListLemmas.{turned}

all-tell-append : (seen : ℕ) (answers others : List Answer) (all more : List Told) → AllTell seen answers all → AllTell seen others more
    → AllTell seen (answers ++ others) (all ++ more)
all-tell-append seen [] others [] more tell rest = rest
all-tell-append seen [] others (first ∷ all) more tell rest = absurd tell
all-tell-append seen (answer ∷ answers) others [] more tell rest = absurd tell
all-tell-append seen (answer ∷ answers) others (first ∷ all) more tell rest = (tell.0, all-tell-append seen answers others all more tell.1 rest)

if-append : (test : Bool) (first : Told) (front back whole : List Told) → whole ≡ front ++ back
    → (if test then first ∷ whole else whole) ≡ (if test then first ∷ front else front) ++ back
if-append true first front back whole is = ap (λ (all : List Told). first ∷ all) is
if-append false first front back whole is = is

told-to-append : (client : ℕ) (all more : List Told) → told_to client (all ++ more) ≡ told_to client all ++ told_to client more
told-to-append client [] more = refl
told-to-append client (first ∷ all) more =
    if-append (first.asker.client == client) first (told_to client all) (told_to client more) (told_to client (all ++ more)) (told-to-append client all more)

module _ (seen : ℕ) where
  abbrev Such : List Told → ℕ → List Answer → Type 0
  Such all client answers = AllTell seen answers (told_to client all)

  pub tells-nothing : (outs : List (Out Answer)) → TellsAll seen [] outs outs
  tells-nothing outs = none-handed (Such []) outs (λ client within. tt)

  pub tells-then : (all more : List Told) (a b c : List (Out Answer)) → TellsAll seen all a b → TellsAll seen more b c → TellsAll seen (all ++ more) a c
  tells-then all more a b c one other =
      handed-then (Such all) (Such more) (Such (all ++ more)) a b c
      (λ client first later is are. subst (λ (list : List Told). AllTell seen (first ++ later) list) (sym (told-to-append client all more))
      (all-tell-append seen first later (told_to client all) (told_to client more) is are))
      one other

  one-case : (asker : Asker) (line : Line) (what : What) (test other : Bool) → test ≡ other → Says what line
      → AllTell seen (if test then record { number = asker.number; seen = seen; what = what } ∷ [] else []) (if other then record { asker = asker; line = line } ∷ [] else [])
  one-case asker line what true true same says = ((refl, refl, says), tt)
  one-case asker line what true false same says = absurd cc
  one-case asker line what false true same says = absurd cc
  one-case asker line what false false same says = tt

  pub tells-one : (asker : Asker) (line : Line) (what : What) (old new : List (Out Answer)) → Says what line
      → TellsOne asker.client (record { number = asker.number; seen = seen; what = what }) old new → TellsAll seen (told (Some asker) line) old new
  tells-one asker line what old new says each =
      handed-at asker.client (record { number = asker.number; seen = seen; what = what }) (Such (told (Some asker) line)) old new
      (λ client. one-case asker line what (client == asker.client) (asker.client == client) (turned client asker.client) says) each

  -- ## Notes that are told from the front
  module _ (me : ℕ) where
    -- What is told of these notes, after what was told before, is what was to be told of all.
    pub record Hears (asker : Option Asker) (begun : List Begun) (notes : List Note) (outs : List (Out Answer)) (asker' : Option Asker) (begun' : List Begun) (rest : List Note)
        (outs' : List (Out Answer)) : Type 0 where
      pub begins : begun_after_all asker' begun' rest ≡ begun_after_all asker begun notes
      pub tells : (new : List (Out Answer)) → TellsAll seen (told_of_all me asker' begun' rest) outs' new → TellsAll seen (told_of_all me asker begun notes) outs new

    pub hears-first : (asker : Option Asker) (begun : List Begun) (notes : List Note) (outs : List (Out Answer)) → Hears asker begun notes outs asker begun notes outs
    hears-first asker begun notes outs = record { begins = refl; tells = λ new tells. tells }

    module _ (asker : Option Asker) (begun : List Begun) (notes : List Note) (outs : List (Out Answer)) (asker' : Option Asker) (begun' : List Begun) where
      pub hears-next : (note : Note) (rest : List Note) (outs' new : List (Out Answer)) → Hears asker begun notes outs asker' begun' (note ∷ rest) outs'
          → TellsAll seen (told_of me asker' begun' note) outs' new → Hears asker begun notes outs (asker_after asker' note) (begun_after asker' begun' note) rest new
      hears-next note rest outs' new hears tells = record {
        begins = hears.begins;
        tells = λ last more. hears.tells last
            (tells-then (told_of me asker' begun' note) (told_of_all me (asker_after asker' note) (begun_after asker' begun' note) rest) outs' new last tells more);
      }

      pub hears-all : (outs' : List (Out Answer)) → Hears asker begun notes outs asker' begun' [] outs' → TellsAll seen (told_of_all me asker begun notes) outs outs'
      hears-all outs' hears = hears.tells outs' (tells-nothing outs')
