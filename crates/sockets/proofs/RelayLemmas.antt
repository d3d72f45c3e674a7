-- A circuit's own relay, and lists of sockets.
use Rattle.std.proofs.Common.{◌≡◌, ◌∙◌, ◌<◌, ℕ, zero, suc, List, [], ◌∷◌, ◌++◌, length, map, refl, sym, ap, subst, arith}
use Rattle.std.specs.Prelude.{Some, slice_get, option_map}
use Rattle.std.proofs.lemmas.Option.{same_Some, slice_get-map}
use Rattle.settings.specs.Settings.{Settings}
use Rattle.settings.specs.declared.settings.CircuitConfig.{CircuitConfig}
use Rattle.settings.specs.declared.settings.RelayConfig.{RelayConfig}
use Rattle.config.specs.CircuitPart.{CircuitPart, part_in, part_of, source_at}

source_there : (relays : List RelayConfig) (n : ℕ) → n < length relays → slice_get (map (λ relay. relay.source) relays) n ≡ Some (source_at relays n)
source_there [] n within = absurd (omega (arith, within))
source_there (r ∷ rs) zero within = refl
source_there (r ∷ rs) (suc n) within = source_there rs n (omega (arith, within))

-- the relay that a configuration gives a circuit is that of its part
pub own_relay : (settings : Settings) (c : ℕ) (circuit : CircuitConfig) → slice_get settings.circuits c ≡ Some circuit → circuit.relay < length settings.relays
    → (part : CircuitPart) → part_in settings c ≡ Some part → slice_get (map (λ relay. relay.source) settings.relays) circuit.relay ≡ Some part.relay
own_relay settings c circuit there within part is =
    let own = λ (circuit : CircuitConfig). part_of circuit (source_at settings.relays circuit.relay) settings.server.listen4 settings.server.listen6 settings.server.duid.items in
    let same : own circuit ≡ part = same_Some (own circuit) part (sym (slice_get-map own settings.circuits c ∙ ap (option_map own) there) ∙ is) in
    source_there settings.relays circuit.relay within ∙ ap (λ (p : CircuitPart). Some p.relay) same

-- what holds of each element with its own in another list holds with one more
module _ {A B : Type 0} where
  pub pushed : (P : ℕ → A → B → Type 0) (xs : List A) (ys : List B) (next : B) → ((k : ℕ) (x : A) (y : B) → slice_get xs k ≡ Some x → slice_get ys k ≡ Some y → P k x y)
      → ((x : A) → slice_get xs (length ys) ≡ Some x → P (length ys) x next)
      → (k : ℕ) (x : A) (y : B) → slice_get xs k ≡ Some x → slice_get (ys ++ next ∷ []) k ≡ Some y → P k x y
  pushed P xs [] next own new zero x y there is = subst (P 0 x) (same_Some next y is) (new x there)
  pushed P xs [] next own new (suc k) x y there is = absurd cc
  pushed P [] (w ∷ ys) next own new k x y there is = absurd cc
  pushed P (v ∷ xs) (w ∷ ys) next own new zero x y there is = own zero x y there is
  pushed P (v ∷ xs) (w ∷ ys) next own new (suc k) x y there is = pushed (λ n. P (suc n)) xs ys next (λ n. own (suc n)) new k x y there is
