-- The refusals, test by test, as the code asks them.
use Prim.Native.Nat.{ℕ}
use mathlib.Core.List.{List}
use mathlib.Core.Path.{◌≡◌, refl, ap, sym, ◌∙◌}
use lib.ListN.{length}
use Rattle.std.specs.Prelude.{Ok, Err}
use Rattle.lists.specs.Decide.{choose}
use Rattle.lists.proofs.Decides.{choose_no, choose_yes}
use Rattle.words.specs.Bytes.{Bytes}
use Rattle.settings.specs.Rules.{Valid}
use Rattle.layout.specs.declared.Shape.{Shape}
use Rattle.entries.specs.Keys.{KeyFits}
use Rattle.entries.specs.Stored.{ValueFits}
use Rattle.sound.specs.Sound.{SoundImage}
use Rattle.edit.specs.Replaced.{Storable}
use Rattle.image.specs.declared.Counts.{Counts}
use Rattle.image.specs.declared.Stage.{Stage}
use Rattle.image.specs.declared.Stage.TheVariants.{Key, Value}
use Rattle.image.specs.Check.{Examined, examine}
use Rattle.image.proofs.Ready.{refused-ready, same-accepted, ready-framed}
use Rattle.chronicle_map.specs.Asked.{nothing, a_key, an_entry, GivenKeyFits, given_key_fits?, GivenValueFits, given_value_fits?, after_value, after_key, after_examined, asked}
use Rattle.chronicle_map.proofs.Accepting.{ready-sound}

-- ---- nothing is given: the check and the list

nothing-by : (x : Examined) → after_examined nothing x ≡ x
unfolding choose after_examined after_key after_value given_key_fits? given_value_fits?
nothing-by (Err s) = refl
nothing-by (Ok (z, c)) = refl

pub asked-nothing : (block img : List ℕ) → asked block img nothing ≡ examine block img
unfolding asked
asked-nothing block img = nothing-by (examine block img)

-- ---- a key is given

-- what of the image and of the key is known when nothing is refused
pub record KeyReady (block img key : List ℕ) (z : Shape) (c : Counts) : Type 0 where
  pub ready : examine block img ≡ Ok (z, c)
  pub key_fits : KeyFits z.settings key

module _ (block img key : List ℕ) where
  module _ (x : Examined) (ex : x ≡ examine block img) where
    module _ (z : Shape) (c : Counts) (e : x ≡ Ok (z, c)) where
      from-ready : asked block img (a_key key) ≡ after_key z c (a_key key) (given_key_fits? z.settings (a_key key))
      unfolding asked after_examined
      from-ready = ap (after_examined (a_key key)) (sym ex ∙ e)

      pub key-wrong : (KeyFits z.settings key → ⊥) → Err Key ≡ asked block img (a_key key)
      unfolding after_key
      key-wrong n = sym (from-ready ∙ choose_no (given_key_fits? z.settings (a_key key)) _ _ n)

      pub key_right : KeyFits z.settings key → Ok (z, c) ≡ asked block img (a_key key)
      unfolding after_key after_value
      key_right k =
          sym
          (from-ready
          ∙ choose_yes (given_key_fits? z.settings (a_key key)) _ _ k
          ∙ choose_yes (given_value_fits? z.settings (a_key key)) _ _ tt)

  ready-key : (z : Shape) (c : Counts) (w : Shape) (d : Counts) (k : Dec (GivenKeyFits w.settings (a_key key))) → examine block img ≡ Ok (w, d)
      → after_key w d (a_key key) k ≡ Ok (z, c) → KeyReady block img key z c
  unfolding choose after_key after_value given_value_fits?
  ready-key z c w d (no n) e f = refused-ready f
  ready-key z c w d (yes k) e f =
      let p : w ≡ z = (same-accepted f).0 in
      record { ready = e ∙ f; key_fits = rw p at k }

  ready_by : (z : Shape) (c : Counts) (x : Examined) → examine block img ≡ x → after_examined (a_key key) x ≡ Ok (z, c) → KeyReady block img key z c
  unfolding after_examined
  ready_by z c (Err s) e f = refused-ready f
  ready_by z c (Ok (w, d)) e f = ready-key z c w d (given_key_fits? w.settings (a_key key)) e f

  module _ (z : Shape) (c : Counts) {x : Examined} (ex : x ≡ asked block img (a_key key)) (e : x ≡ Ok (z, c)) where
    pub key-ready : KeyReady block img key z c
    unfolding asked
    key-ready = ready_by z c (examine block img) refl (sym ex ∙ e)

    pub key-valid : Valid z.settings
    key-valid = (ready-framed block img z c key-ready.ready).valid

    pub key-sound : Bytes img → SoundImage z img
    key-sound b = ready-sound block img z c b key-ready.ready

-- ---- a key and a record are given

module _ (block img key value : List ℕ) where
  -- after the key's refusals come the record's
  entry-by : (x : Examined) (s : Stage) → after_examined (a_key key) x ≡ Err s → after_examined (an_entry key value) x ≡ Err s
  unfolding choose after_examined after_key after_value given_key_fits? given_value_fits?
  entry-by (Err r) s f = f
  entry-by (Ok (z, c)) s f = refused-key (given_key_fits? z.settings (a_key key)) f
    where
      refused-key : (d : Dec (GivenKeyFits z.settings (a_key key))) → after_key z c (a_key key) d ≡ Err s
          → after_key z c (an_entry key value) d ≡ Err s
      refused-key (no n) g = g
      refused-key (yes k) g = refused-ready (sym g)

  module _ (x : Examined) (ex : x ≡ asked block img (a_key key)) where
    pub entry-refused : (s : Stage) → x ≡ Err s → asked block img (an_entry key value) ≡ Err s
    unfolding asked
    entry-refused s e = entry-by (examine block img) s (sym ex ∙ e)

    module _ (z : Shape) (c : Counts) (e : x ≡ Ok (z, c)) where
      from_key : asked block img (an_entry key value) ≡ after_value z c (an_entry key value) (given_value_fits? z.settings (an_entry key value))
      unfolding asked after_examined after_key
      from_key =
          let k : KeyReady block img key z c = key-ready block img key z c ex e in
          ap (after_examined (an_entry key value)) k.ready ∙ choose_yes (given_key_fits? z.settings (an_entry key value)) _ _ k.key_fits

      pub value-wrong : (ValueFits z.settings (length key) (length value) → ⊥) → Err Value ≡ asked block img (an_entry key value)
      unfolding after_value
      value-wrong n = sym (from_key ∙ choose_no (given_value_fits? z.settings (an_entry key value)) _ _ n)

      pub entry-right : ValueFits z.settings (length key) (length value) → Ok (z, c) ≡ asked block img (an_entry key value)
      unfolding after_value
      entry-right v = sym (from_key ∙ choose_yes (given_value_fits? z.settings (an_entry key value)) _ _ v)

  -- what is known when nothing is refused
  pub record EntryReady (z : Shape) (c : Counts) : Type 0 where
    pub ready : examine block img ≡ Ok (z, c)
    pub key_fits : KeyFits z.settings key
    pub value_fits : ValueFits z.settings (length key) (length value)

  ready-entry : (z : Shape) (c : Counts) (w : Shape) (d : Counts) (k : Dec (GivenKeyFits w.settings (an_entry key value)))
      (v : Dec (GivenValueFits w.settings (an_entry key value)))
      → given_value_fits? w.settings (an_entry key value) ≡ v → examine block img ≡ Ok (w, d)
      → after_key w d (an_entry key value) k ≡ Ok (z, c) → EntryReady z c
  unfolding choose after_key after_value
  ready-entry z c w d (no n) v q e f = refused-ready f
  ready-entry z c w d (yes k) v q e f = last v (ap (after_value w d (an_entry key value)) (sym q) ∙ f)
    where
      last : (v : Dec (GivenValueFits w.settings (an_entry key value))) → after_value w d (an_entry key value) v ≡ Ok (z, c) → EntryReady z c
      last (no n) g = refused-ready g
      last (yes u) g = let p : w ≡ z = (same-accepted g).0 in record { ready = e ∙ g; key_fits = rw p at k; value_fits = rw p at u }

  entry-ready-by : (z : Shape) (c : Counts) (x : Examined) → examine block img ≡ x → after_examined (an_entry key value) x ≡ Ok (z, c) → EntryReady z c
  unfolding after_examined
  entry-ready-by z c (Err s) e f = refused-ready f
  entry-ready-by z c (Ok (w, d)) e f =
      ready-entry z c w d (given_key_fits? w.settings (an_entry key value)) (given_value_fits? w.settings (an_entry key value)) refl e f

  module _ (z : Shape) (c : Counts) {x : Examined} (ex : x ≡ asked block img (an_entry key value)) (e : x ≡ Ok (z, c)) where
    pub entry_ready : EntryReady z c
    unfolding asked
    entry_ready = entry-ready-by z c (examine block img) refl (sym ex ∙ e)

    pub entry-storable : Bytes img → Storable z img key value
    entry-storable b =
        record {
          sound = ready-sound block img z c b entry_ready.ready;
          key_fits = entry_ready.key_fits;
          value_fits = entry_ready.value_fits;
        }
