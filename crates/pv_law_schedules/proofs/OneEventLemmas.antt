-- A line says one thing.
use Rattle.std.proofs.Common.{◌≡◌, ℕ, Bool, true, false, Option, Some, None, List, [], ◌∷◌, inl, inr, refl, sym, ap, subst, ◌∙◌}
use Rattle.std.specs.Prelude.{codes, if◌then◌else◌, ◌++◌}
use Rattle.std.specs.Str.{bytes_eq}
use Rattle.std.proofs.lemmas.Bool.{false≢true}
use Rattle.pv_base.specs.Catalog.{Item, place_of}
use Rattle.pv_base.specs.declared.mode.Mode.{Mode}
use Rattle.pv_base.specs.declared.mode.Mode.TheVariants.{Lost, Kept, Torn}
use Rattle.pv_model.specs.LineCauses.{Before, declared_by, last_requests}
use Rattle.pv_model.specs.Events as events
use Rattle.pv_model.specs.Events.{Event}
use Rattle.pv_model.specs.LineForms.{leading_word, later_words, first_word, takes_program}
use Rattle.pv_model.specs.LiveScript.{Request, to_ask, to_peek, FaultPlan}
use Rattle.pv_model.specs.ProgramText.{IsProgramText}
use Rattle.pv_model.specs.Schedule.{IsMode, IsOne, IsArm, IsRequest, request_word, Says, IsEvent, DeclaresSites, DeclaresJournal, DeclaresItem, DeclaresPlan, DeclaresClient, DeclaresRequest, DeclaresPeek, DeclaresLive, Declares, new_client, with_wish}
use Rattle.pv_model.specs.Syntax.{Program}
use Rattle.pv_model.specs.Text.{TextLine, words, number_of_digits, number_of_signed}
use Rattle.pv_base.proofs.Basics.{Some_inj}
use Rattle.pv_law_schedules.proofs.LineFormLemmas.{is_declaring, none-some-sites, kinds-differ, declares-journal, declares-item, declares-plan, declares-client}
use Rattle.pv_law_schedules.proofs.LineLawLemmas.{word-differs, request-declares}
use Rattle.pv_law_programs.proofs.ProgramTextLemmas.{one_program_text}

-- The event of a line by its words, unless it is a request.

abbrev mode_of : List ℕ → Mode
mode_of word = if bytes_eq word (codes "lost") then Lost else (if bytes_eq word (codes "kept") then Kept else Torn)

abbrev most_of : List (List ℕ) → Option ℕ
most_of [] = None
most_of (word ∷ more) = Some (number_of_digits word)

abbrev second_of : List (List ℕ) → List ℕ
second_of given = leading_word (later_words given)

abbrev third_of : List (List ℕ) → List ℕ
third_of given = leading_word (later_words (later_words given))

abbrev event_of : List ℕ → List (List ℕ) → Event
event_of word given =
    if bytes_eq word (codes "deliver") then events.deliver (number_of_digits (leading_word given)) else
    (if bytes_eq word (codes "lose") then events.lose (number_of_digits (leading_word given)) else
    (if bytes_eq word (codes "pump") then events.pump (most_of given) else
    (if bytes_eq word (codes "drop") then events.drop (number_of_digits (leading_word given)) else
    (if bytes_eq word (codes "tick") then events.tick (number_of_digits (leading_word given)) else
    (if bytes_eq word (codes "stop") then events.stop (number_of_digits (leading_word given)) else
    (if bytes_eq word (codes "start") then events.start (number_of_digits (leading_word given)) else
    (if bytes_eq word (codes "mend") then events.mend (number_of_digits (leading_word given)) else
    (if bytes_eq word (codes "checkpoint") then events.checkpoint (number_of_digits (leading_word given)) else
    (if bytes_eq word (codes "cut") then events.arm (number_of_digits (leading_word given)) (number_of_digits (second_of given)) (mode_of (third_of given)) true else
    (if bytes_eq word (codes "fail") then events.arm (number_of_digits (leading_word given)) (number_of_digits (second_of given)) (mode_of (third_of given)) false else
    (if bytes_eq word (codes "sent") then events.sent else
    (if bytes_eq word (codes "report") then events.report else events.total))))))))))))

abbrev line_event : List (List ℕ) → Event
line_event said = event_of (leading_word said) (later_words said)

is_submit : Event → Bool
is_submit (events.submit m query text p) = true
is_submit e = false

mode-of : (w : List ℕ) (m : Mode) → IsMode w m → m ≡ mode_of w
mode-of w Lost is = sym (ap mode_of is)
mode-of w Kept is = sym (ap mode_of is)
mode-of w Torn is = sym (ap mode_of is)

one-of : (line : TextLine) (word : List ℕ) (n : ℕ) (Holds : List ℕ → Type 0) (make : ℕ → Event) → ((w : List ℕ) → Holds w → n ≡ number_of_digits w)
    → ((w : List ℕ) → line_event (word ∷ w ∷ []) ≡ make (number_of_digits w)) → IsOne word Holds line → make n ≡ line_event (words line)
one-of line word n Holds make value made is = ap make (value is.0 is.2) ∙ sym (made is.0) ∙ sym (ap line_event is.1)

arm-of : (before : Before) (line : TextLine) (word : List ℕ) (m call : ℕ) (mode : Mode) (stops : Bool)
    → ((at number left : List ℕ) → line_event (word ∷ at ∷ number ∷ left ∷ []) ≡ events.arm (number_of_digits at) (number_of_digits number) (mode_of left) stops)
    → IsArm before word m call mode line → events.arm m call mode stops ≡ line_event (words line)
arm-of before line word m call mode stops made is =
    (λ i. events.arm (is.4.0.value i) (is.5.0.value i) (mode-of is.2 mode is.6 i) stops) ∙ sym (made is.0 is.1 is.2) ∙ sym (ap line_event is.3)

-- an event that is no request
says-event : (before : Before) (line : TextLine) (e : Event) → is_submit e ≡ false → Says before line e → e ≡ line_event (words line)
unfolding is_submit
says-event before line (events.submit m query text p) isnt is = absurd (false≢true (sym isnt))
says-event before line (events.deliver n) isnt is = one-of line (codes "deliver") n _ events.deliver (λ w h. h.0.value) (λ w. refl) is
says-event before line (events.lose n) isnt is = one-of line (codes "lose") n _ events.lose (λ w h. h.0.value) (λ w. refl) is
says-event before line (events.pump None) isnt is = sym (ap line_event is)
says-event before line (events.pump (Some n)) isnt is = one-of line (codes "pump") n _ (λ m. events.pump (Some m)) (λ w h. h.0.value) (λ w. refl) is
says-event before line (events.drop n) isnt is = one-of line (codes "drop") n _ events.drop (λ w h. h.0.value) (λ w. refl) is
says-event before line (events.tick n) isnt is = one-of line (codes "tick") n _ events.tick (λ w h. h.0.value) (λ w. refl) is
says-event before line (events.stop n) isnt is = one-of line (codes "stop") n _ events.stop (λ w h. h.0.value) (λ w. refl) is
says-event before line (events.start n) isnt is = one-of line (codes "start") n _ events.start (λ w h. h.0.value) (λ w. refl) is
says-event before line (events.mend n) isnt is = one-of line (codes "mend") n _ events.mend (λ w h. h.0.value) (λ w. refl) is
says-event before line (events.checkpoint n) isnt is = one-of line (codes "checkpoint") n _ events.checkpoint (λ w h. h.0.value) (λ w. refl) is
says-event before line (events.arm m call mode true) isnt is = arm-of before line (codes "cut") m call mode true (λ at number left. refl) is
says-event before line (events.arm m call mode false) isnt is = arm-of before line (codes "fail") m call mode false (λ at number left. refl) is
says-event before line events.sent isnt is = sym (ap line_event is)
says-event before line events.report isnt is = sym (ap line_event is)
says-event before line events.total isnt is = sym (ap line_event is)

-- Requests, by their first word.

takes-one : (line : TextLine) (word : List ℕ) (Holds : List ℕ → Type 0) → IsOne word Holds line → takes_program (first_word line) ≡ takes_program word
takes-one line word Holds is = ap (λ (ws : List (List ℕ)). takes_program (leading_word ws)) is.1

takes-submit : (before : Before) (line : TextLine) (e : Event) → Says before line e → takes_program (first_word line) ≡ is_submit e
unfolding is_submit takes_program
takes-submit before line (events.submit m true text p) is = ap (λ (ws : List (List ℕ)). takes_program (leading_word ws)) is.first
takes-submit before line (events.submit m false text p) is = ap (λ (ws : List (List ℕ)). takes_program (leading_word ws)) is.first
takes-submit before line (events.deliver n) is = takes-one line (codes "deliver") _ is
takes-submit before line (events.lose n) is = takes-one line (codes "lose") _ is
takes-submit before line (events.pump None) is = ap (λ (ws : List (List ℕ)). takes_program (leading_word ws)) is
takes-submit before line (events.pump (Some n)) is = takes-one line (codes "pump") _ is
takes-submit before line (events.drop n) is = takes-one line (codes "drop") _ is
takes-submit before line (events.tick n) is = takes-one line (codes "tick") _ is
takes-submit before line (events.stop n) is = takes-one line (codes "stop") _ is
takes-submit before line (events.start n) is = takes-one line (codes "start") _ is
takes-submit before line (events.mend n) is = takes-one line (codes "mend") _ is
takes-submit before line (events.checkpoint n) is = takes-one line (codes "checkpoint") _ is
takes-submit before line (events.arm m call mode true) is = ap (λ (ws : List (List ℕ)). takes_program (leading_word ws)) is.3
takes-submit before line (events.arm m call mode false) is = ap (λ (ws : List (List ℕ)). takes_program (leading_word ws)) is.3
takes-submit before line events.sent is = ap (λ (ws : List (List ℕ)). takes_program (leading_word ws)) is
takes-submit before line events.report is = ap (λ (ws : List (List ℕ)). takes_program (leading_word ws)) is
takes-submit before line events.total is = ap (λ (ws : List (List ℕ)). takes_program (leading_word ws)) is

abbrev query_word : List ℕ → Bool
query_word word = bytes_eq word (codes "query")

query-of : (query : Bool) → query_word (request_word query) ≡ query
query-of true = refl
query-of false = refl

same-request : (before : Before) (line : TextLine) (m n : ℕ) (query other : Bool) (text letters : List ℕ) (p q : Program)
    → IsRequest before m query text p line → IsRequest before n other letters q line → events.submit m query text p ≡ events.submit n other letters q
same-request before line m n query other text letters p q is also =
    let word : request_word query ≡ request_word other = ap leading_word (sym is.first ∙ also.first) in
    let kind : query ≡ other = sym (query-of query) ∙ ap query_word word ∙ query-of other in
    let given = sym is.given ∙ also.given in
    let at : is.at ≡ also.at = ap leading_word given in
    let same : text ≡ letters = ap second_of given in
    let site : m ≡ n = is.place.0.value ∙ ap number_of_digits at ∙ sym also.place.0.value in
    let program : p ≡ q = one_program_text (declared_by before) letters p q (subst (λ (t : List ℕ). IsProgramText (declared_by before) t p) same is.is) also.is in
    λ i. events.submit (site i) (kind i) (same i) (program i)

no-request : (before : Before) (line : TextLine) (m : ℕ) (query : Bool) (text : List ℕ) (p : Program) (f : Event)
    → IsRequest before m query text p line → is_submit f ≡ true → Says before line f → events.submit m query text p ≡ f
unfolding is_submit
no-request before line m query text p (events.submit n other letters q) is yet also = same-request before line m n query other text letters p q is also
no-request before line m query text p f is yet also = absurd (false≢true yet)

by-request : (before : Before) (line : TextLine) (e f : Event) → Says before line e → Says before line f → is_submit f ≡ is_submit e → e ≡ f
unfolding is_submit
by-request before line (events.submit m query text p) f is also same = no-request before line m query text p f is same also
by-request before line e f is also same = says-event before line e refl is ∙ sym (says-event before line f same also)

pub one-event : {before : Before} {line : TextLine} {e f : Event} → IsEvent before line e → IsEvent before line f → e ≡ f
one-event {before} {line} {e} {f} is also =
    by-request before line e f is.says also.says (sym (takes-submit before line f also.says) ∙ takes-submit before line e is.says)

-- Declarations.

pub one-sites : (before : Before) (line : TextLine) (a b : Before) → DeclaresSites before line a → DeclaresSites before line b → a ≡ b
one-sites before line a b is also =
    let w : is.is.0 ≡ also.is.0 = ap second_of (sym is.is.1 ∙ also.is.1) in
    let n : is.count ≡ also.count = is.is.2.0.value ∙ ap number_of_digits w ∙ sym also.is.2.0.value in
    is.same ∙ ap (λ (m : ℕ). record before { sites = Some m }) n ∙ sym also.same

pub one-journal : (before : Before) (line : TextLine) (a b : Before) → DeclaresJournal before line a → DeclaresJournal before line b → a ≡ b
one-journal before line a b is also =
    let w : is.is.0 ≡ also.is.0 = ap second_of (sym is.is.1 ∙ also.is.1) in
    let n : is.limit ≡ also.limit = is.is.2.0.value ∙ ap number_of_digits w ∙ sym also.is.2.0.value in
    is.same ∙ ap (λ (m : ℕ). record before { journal = Some m }) n ∙ sym also.same

abbrev fourth_of : List (List ℕ) → List ℕ
fourth_of given = leading_word (later_words (later_words (later_words given)))

pub one-item : (before : Before) (line : TextLine) (a b : Before) → DeclaresItem before line a → DeclaresItem before line b → a ≡ b
one-item before line a b is also =
    let both = sym is.is ∙ also.is in
    let name : is.item.name ≡ also.item.name = ap second_of both in
    let site : is.item.site ≡ also.item.site = is.place.0.value ∙ ap (λ (ws : List (List ℕ)). number_of_digits (third_of ws)) both ∙ sym also.place.0.value in
    let value : is.item.value ≡ also.item.value = is.worth.value ∙ ap (λ (ws : List (List ℕ)). number_of_signed (fourth_of ws)) both ∙ sym also.worth.value in
    let item : is.item ≡ also.item = λ i. record { name = name i; site = site i; value = value i } in
    is.same ∙ ap (λ (it : Item). record before { items = before.items ++ it ∷ [] }) item ∙ sym also.same

journal-item : (before : Before) (line : TextLine) (a b : Before) → DeclaresJournal before line a → DeclaresItem before line b → ⊥
journal-item before line a b is also = word-differs line (codes "journal") (codes "item") refl refl (ap leading_word is.is.1) (ap leading_word also.is)

-- Declarations of live scripts.

pub one-plan : (before : Before) (line : TextLine) (a b : Before) → DeclaresPlan before line a → DeclaresPlan before line b → a ≡ b
one-plan before line a b is also =
    let both = sym is.is ∙ also.is in
    let dropped : is.dropped ≡ also.dropped = ap second_of both in
    let doubled : is.doubled ≡ also.doubled = ap third_of both in
    let m : is.fault_plan.drop_each ≡ also.fault_plan.drop_each = is.drops.0.value ∙ ap number_of_digits dropped ∙ sym also.drops.0.value in
    let n : is.fault_plan.double_each ≡ also.fault_plan.double_each = is.doubles.0.value ∙ ap number_of_digits doubled ∙ sym also.doubles.0.value in
    let same : is.fault_plan ≡ also.fault_plan = λ i. record { drop_each = m i; double_each = n i } in
    is.same ∙ ap (λ (p : FaultPlan). record before { fault_plan = Some p }) same ∙ sym also.same

pub one-client : (before : Before) (line : TextLine) (a b : Before) → DeclaresClient before line a → DeclaresClient before line b → a ≡ b
one-client before line a b is also =
    let w : is.is.0 ≡ also.is.0 = ap second_of (sym is.is.1 ∙ also.is.1) in
    let n : is.site ≡ also.site = is.is.2.0.value ∙ ap number_of_digits w ∙ sym also.is.2.0.value in
    is.same ∙ ap (λ (m : ℕ). record before { begun = true; clients = before.clients ++ new_client m ∷ [] }) n ∙ sym also.same

pub one-asked : (before : Before) (line : TextLine) (a b : Before) → DeclaresRequest before line a → DeclaresRequest before line b → a ≡ b
one-asked before line a b is also =
    let word : request_word is.request.query ≡ request_word also.request.query = ap leading_word (sym is.first ∙ also.first) in
    let query : is.request.query ≡ also.request.query = sym (query-of is.request.query) ∙ ap query_word word ∙ query-of also.request.query in
    let text : is.request.text ≡ also.request.text = ap leading_word (sym is.given ∙ also.given) in
    let program : is.request.program ≡ also.request.program =
    one_program_text (declared_by before) also.request.text is.request.program also.request.program
    (subst (λ (t : List ℕ). IsProgramText (declared_by before) t is.request.program) text is.is) also.is in
    let number : is.request.number ≡ also.request.number = is.number ∙ sym also.number in
    let same : is.request ≡ also.request = λ i. record { number = number i; query = query i; text = text i; program = program i } in
    is.same ∙ ap (λ (r : Request). record before { clients = with_wish before.clients (to_ask r) }) same ∙ sym also.same

pub one-peek : (before : Before) (line : TextLine) (a b : Before) → DeclaresPeek before line a → DeclaresPeek before line b → a ≡ b
one-peek before line a b is also =
    let name : is.name ≡ also.name = ap second_of (sym is.is ∙ also.is) in
    let item : is.item ≡ also.item = Some_inj (sym is.at ∙ ap (λ (w : List ℕ). place_of w before.items) name ∙ also.at) in
    is.same ∙ ap (λ (n : ℕ). record before { clients = with_wish before.clients (to_peek (last_requests before.clients) n) }) item ∙ sym also.same

-- a request's first word declares nothing else
asked-word : (before : Before) (line : TextLine) (a : Before) → DeclaresRequest before line a → is_declaring (first_word line) ≡ false
asked-word before line a is = ap (λ (ws : List (List ℕ)). is_declaring (leading_word ws)) is.first ∙ request-declares is.request.query

peek-word : (before : Before) (line : TextLine) (a : Before) → DeclaresPeek before line a → is_declaring (first_word line) ≡ false
peek-word before line a is = ap (λ (ws : List (List ℕ)). is_declaring (leading_word ws)) is.is

-- a request's first word is not that of a look
asked-peek : (before : Before) (line : TextLine) (a b : Before) → DeclaresRequest before line a → DeclaresPeek before line b → ⊥
asked-peek before line a b is also = request-peek is.request.query (sym (ap leading_word is.first) ∙ ap leading_word also.is)
  where
    request-peek : (query : Bool) → request_word query ≡ codes "peek" → ⊥
    request-peek true e = false≢true (ap (bytes_eq (codes "peek")) e)
    request-peek false e = false≢true (ap (bytes_eq (codes "peek")) e)

one-live : {before : Before} {line : TextLine} {a b : Before} → DeclaresLive before line a → DeclaresLive before line b → a ≡ b
one-live {before} {line} {a} {b} (inl x) (inl y) = one-plan before line a b x y
one-live {before} {line} {a} {b} (inl x) (inr (inl y)) =
    absurd (word-differs line (codes "plan") (codes "client") refl refl (ap leading_word x.is) (ap leading_word y.is.1))
one-live {before} {line} {a} {b} (inl x) (inr (inr (inl y))) = absurd (declares-plan (first_word line) (asked-word before line b y) (ap leading_word x.is))
one-live {before} {line} {a} {b} (inl x) (inr (inr (inr y))) = absurd (declares-plan (first_word line) (peek-word before line b y) (ap leading_word x.is))
one-live {before} {line} {a} {b} (inr (inl x)) (inl y) =
    absurd (word-differs line (codes "plan") (codes "client") refl refl (ap leading_word y.is) (ap leading_word x.is.1))
one-live {before} {line} {a} {b} (inr (inl x)) (inr (inl y)) = one-client before line a b x y
one-live {before} {line} {a} {b} (inr (inl x)) (inr (inr (inl y))) = absurd (declares-client (first_word line) (asked-word before line b y) (ap leading_word x.is.1))
one-live {before} {line} {a} {b} (inr (inl x)) (inr (inr (inr y))) = absurd (declares-client (first_word line) (peek-word before line b y) (ap leading_word x.is.1))
one-live {before} {line} {a} {b} (inr (inr (inl x))) (inl y) = absurd (declares-plan (first_word line) (asked-word before line a x) (ap leading_word y.is))
one-live {before} {line} {a} {b} (inr (inr (inl x))) (inr (inl y)) = absurd (declares-client (first_word line) (asked-word before line a x) (ap leading_word y.is.1))
one-live {before} {line} {a} {b} (inr (inr (inl x))) (inr (inr (inl y))) = one-asked before line a b x y
one-live {before} {line} {a} {b} (inr (inr (inl x))) (inr (inr (inr y))) = absurd (asked-peek before line a b x y)
one-live {before} {line} {a} {b} (inr (inr (inr x))) (inl y) = absurd (declares-plan (first_word line) (peek-word before line a x) (ap leading_word y.is))
one-live {before} {line} {a} {b} (inr (inr (inr x))) (inr (inl y)) = absurd (declares-client (first_word line) (peek-word before line a x) (ap leading_word y.is.1))
one-live {before} {line} {a} {b} (inr (inr (inr x))) (inr (inr (inl y))) = absurd (asked-peek before line b a y x)
one-live {before} {line} {a} {b} (inr (inr (inr x))) (inr (inr (inr y))) = one-peek before line a b x y

-- What a live script alone declares, nothing else does.

sites-live : {before : Before} {line : TextLine} {a b : Before} → DeclaresSites before line a → DeclaresLive before line b → ⊥
sites-live {before} x (inl y) = none-some-sites before.sites y.sites y.said x.first
sites-live {before} x (inr (inl y)) = none-some-sites before.sites y.sites y.said x.first
sites-live {before} x (inr (inr (inl y))) = none-some-sites before.sites y.sites y.said x.first
sites-live {before} x (inr (inr (inr y))) = none-some-sites before.sites y.sites y.said x.first

journal-live : {before : Before} {line : TextLine} {a b : Before} → DeclaresJournal before line a → DeclaresLive before line b → ⊥
journal-live {before} {line} x (inl y) = word-differs line (codes "journal") (codes "plan") refl refl (ap leading_word x.is.1) (ap leading_word y.is)
journal-live {before} {line} x (inr (inl y)) = word-differs line (codes "journal") (codes "client") refl refl (ap leading_word x.is.1) (ap leading_word y.is.1)
journal-live {before} {line} {a} {b} x (inr (inr (inl y))) = declares-journal (first_word line) (asked-word before line b y) (ap leading_word x.is.1)
journal-live {before} {line} {a} {b} x (inr (inr (inr y))) = declares-journal (first_word line) (peek-word before line b y) (ap leading_word x.is.1)

item-live : {before : Before} {line : TextLine} {a b : Before} → DeclaresItem before line a → DeclaresLive before line b → ⊥
item-live {before} {line} x (inl y) = word-differs line (codes "item") (codes "plan") refl refl (ap leading_word x.is) (ap leading_word y.is)
item-live {before} {line} x (inr (inl y)) = word-differs line (codes "item") (codes "client") refl refl (ap leading_word x.is) (ap leading_word y.is.1)
item-live {before} {line} {a} {b} x (inr (inr (inl y))) = declares-item (first_word line) (asked-word before line b y) (ap leading_word x.is)
item-live {before} {line} {a} {b} x (inr (inr (inr y))) = declares-item (first_word line) (peek-word before line b y) (ap leading_word x.is)

pub one-declared : {before : Before} {line : TextLine} {a b : Before} → Declares before line a → Declares before line b → a ≡ b
one-declared {before} {line} {a} {b} (inl x) (inl y) = one-sites before line a b x y
one-declared {before} {line} {a} {b} (inl x) (inr (inl y)) = absurd (none-some-sites before.sites y.sites y.said x.first)
one-declared {before} {line} {a} {b} (inl x) (inr (inr (inl y))) = absurd (none-some-sites before.sites y.sites y.said x.first)
one-declared {before} {line} {a} {b} (inl x) (inr (inr (inr y))) = absurd (sites-live x y)
one-declared {before} {line} {a} {b} (inr (inl x)) (inl y) = absurd (none-some-sites before.sites x.sites x.said y.first)
one-declared {before} {line} {a} {b} (inr (inl x)) (inr (inl y)) = one-journal before line a b x y
one-declared {before} {line} {a} {b} (inr (inl x)) (inr (inr (inl y))) = absurd (journal-item before line a b x y)
one-declared {before} {line} {a} {b} (inr (inl x)) (inr (inr (inr y))) = absurd (journal-live x y)
one-declared {before} {line} {a} {b} (inr (inr (inl x))) (inl y) = absurd (none-some-sites before.sites x.sites x.said y.first)
one-declared {before} {line} {a} {b} (inr (inr (inl x))) (inr (inl y)) = absurd (journal-item before line b a y x)
one-declared {before} {line} {a} {b} (inr (inr (inl x))) (inr (inr (inl y))) = one-item before line a b x y
one-declared {before} {line} {a} {b} (inr (inr (inl x))) (inr (inr (inr y))) = absurd (item-live x y)
one-declared {before} {line} {a} {b} (inr (inr (inr x))) (inl y) = absurd (sites-live y x)
one-declared {before} {line} {a} {b} (inr (inr (inr x))) (inr (inl y)) = absurd (journal-live y x)
one-declared {before} {line} {a} {b} (inr (inr (inr x))) (inr (inr (inl y))) = absurd (item-live y x)
one-declared {before} {line} {a} {b} (inr (inr (inr x))) (inr (inr (inr y))) = one-live x y

-- An event declares nothing.

declaring-one : (line : TextLine) (word : List ℕ) (Holds : List ℕ → Type 0) → IsOne word Holds line → is_declaring (first_word line) ≡ is_declaring word
declaring-one line word Holds is = ap (λ (ws : List (List ℕ)). is_declaring (leading_word ws)) is.1

says-no-declaring : (before : Before) (line : TextLine) (e : Event) → Says before line e → is_declaring (first_word line) ≡ false
says-no-declaring before line (events.submit m true text p) is = ap (λ (ws : List (List ℕ)). is_declaring (leading_word ws)) is.first
says-no-declaring before line (events.submit m false text p) is = ap (λ (ws : List (List ℕ)). is_declaring (leading_word ws)) is.first
says-no-declaring before line (events.deliver n) is = declaring-one line (codes "deliver") _ is
says-no-declaring before line (events.lose n) is = declaring-one line (codes "lose") _ is
says-no-declaring before line (events.pump None) is = ap (λ (ws : List (List ℕ)). is_declaring (leading_word ws)) is
says-no-declaring before line (events.pump (Some n)) is = declaring-one line (codes "pump") _ is
says-no-declaring before line (events.drop n) is = declaring-one line (codes "drop") _ is
says-no-declaring before line (events.tick n) is = declaring-one line (codes "tick") _ is
says-no-declaring before line (events.stop n) is = declaring-one line (codes "stop") _ is
says-no-declaring before line (events.start n) is = declaring-one line (codes "start") _ is
says-no-declaring before line (events.mend n) is = declaring-one line (codes "mend") _ is
says-no-declaring before line (events.checkpoint n) is = declaring-one line (codes "checkpoint") _ is
says-no-declaring before line (events.arm m call mode true) is = ap (λ (ws : List (List ℕ)). is_declaring (leading_word ws)) is.3
says-no-declaring before line (events.arm m call mode false) is = ap (λ (ws : List (List ℕ)). is_declaring (leading_word ws)) is.3
says-no-declaring before line events.sent is = ap (λ (ws : List (List ℕ)). is_declaring (leading_word ws)) is
says-no-declaring before line events.report is = ap (λ (ws : List (List ℕ)). is_declaring (leading_word ws)) is
says-no-declaring before line events.total is = ap (λ (ws : List (List ℕ)). is_declaring (leading_word ws)) is

pub not-both : {before : Before} {line : TextLine} {e : Event} {a : Before} → IsEvent before line e → Declares before line a → ⊥
not-both {before} {line} {e} {a} is (inl x) = none-some-sites before.sites is.sites is.said x.first
not-both {before} {line} {e} {a} is (inr (inl x)) = declares-journal (first_word line) (says-no-declaring before line e is.says) (ap leading_word x.is.1)
not-both {before} {line} {e} {a} is (inr (inr (inl x))) = declares-item (first_word line) (says-no-declaring before line e is.says) (ap leading_word x.is)
not-both {before} {line} {e} {a} is (inr (inr (inr (inl x)))) = kinds-differ (sym is.kind ∙ x.kind)
not-both {before} {line} {e} {a} is (inr (inr (inr (inr (inl x))))) = kinds-differ (sym is.kind ∙ x.kind)
not-both {before} {line} {e} {a} is (inr (inr (inr (inr (inr (inl x)))))) = kinds-differ (sym is.kind ∙ x.kind)
not-both {before} {line} {e} {a} is (inr (inr (inr (inr (inr (inr x)))))) = kinds-differ (sym is.kind ∙ x.kind)
