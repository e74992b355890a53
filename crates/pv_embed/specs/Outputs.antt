-- What a site lets out, as plain data.
use Rattle.std.specs.Prelude.{◌≡◌, ℕ, ◌≤◌, ◌<◌, List, [], ◌∷◌, ◌++◌, Option, Some, None, map, All, ⊤}
use Rattle.std.specs.Vec.Iter.{into_iter_items}
use Rattle.pv_format.specs.MessageSpelling.{SpellsEnvelope}
use Rattle.pv_protocol.specs.State as model
use Rattle.pv_site.specs.Values.{outgoing_of, note_of}
use Rattle.pv_wire.specs.Values.{envelope_of}
use Rattle.pv_embed.specs.Held.{Held, Out, message, note}
use Rattle.pv_embed.specs.declared.made.Made.{Made}
use Rattle.pv_embed.specs.declared.made.Output.{Output}
use Rattle.pv_embed.specs.declared.made.Output.TheVariants as code

-- The output as plain data.
abbrev pub out_of : Output → Out
out_of (code.Message envelope) = message (envelope_of envelope)
out_of (code.Note reported) = note (note_of reported)

-- Where it is a message, some bytes spell it.
abbrev pub IsSpelled : Out → Type 0
IsSpelled (message envelope) = (bytes : List ℕ) × SpellsEnvelope envelope bytes
IsSpelled (note reported) = ⊤

-- What a step of this site lets out, by what it sends and reports: the messages come first.
abbrev pub outs : ℕ → List model.Outgoing → List model.Note → List Out
outs from sends notes = map (λ (sent : model.Outgoing). message (record { from = from; to = sent.to; message = sent.message })) sends ++ map note notes

-- What is left to let out of a step of this site.
abbrev pub outputs_of : ℕ → Made → List Out
outputs_of from made = outs from (map outgoing_of (into_iter_items made.sends)) (map note_of (into_iter_items made.notes))

-- The first of the outputs was taken, if there is one.
abbrev pub TakesFirst : List Out → List Out → Option Output → Type 0
TakesFirst old new None = (old ≡ []) × (new ≡ [])
TakesFirst old new (Some output) = old ≡ out_of output ∷ new

-- The same, with the length of the log after the step.
abbrev pub held_of : ℕ → Made → List Held
held_of from made = map (λ out. record { length = made.length; out = out }) (outputs_of from made)

-- Some bytes spell each message that is held.
abbrev pub AreSpelled : List Held → Type 0
AreSpelled held = All (λ (one : Held). IsSpelled one.out) held

-- What is let out of these, where so much of the log is in the file: the first, if the log was no longer when it was made.
abbrev pub TakesFrom : ℕ → List Held → List Held → Option Output → Type 0
TakesFrom stored [] new result = (result ≡ None) × (new ≡ [])
TakesFrom stored (first ∷ later) new None = (stored < first.length) × (new ≡ first ∷ later)
TakesFrom stored (first ∷ later) new (Some output) = (first.length ≤ stored) × (out_of output ≡ first.out) × (new ≡ later)
