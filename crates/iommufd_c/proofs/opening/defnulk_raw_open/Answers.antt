use Rattle.std.proofs.Common.{◌≡◌, ◌∙◌, ◌&&◌, Bool, Option, Some, None, false, inl, inr, is_none, is_some, refl, rules}
use Rattle.std.proofs.Common.{subst, sym, true}
use Rattle.iofd_words.specs.Limits.{first_outside}
use Rattle.iofd_words.specs.Settings.{Settings}
use Rattle.shared_iommufd.specs.Limits as server
use Rattle.iommufd_c.specs.Handles.{Opens}
use Rattle.iommufd_c.specs.declared.handle.client.Client.{Client}
use Rattle.iommufd_c.specs.Configured.{are_rows, settings_of_rows}
use Rattle.iommufd_c.proofs.opening.defnulk_raw_open.Goals as goal

isnt_closed : (client : Option Client) → is_some client ≡ true → client ≡ None → ⊥
isnt_closed client there shut = cc

is_closed : (client : Option Client) → is_some client ≡ false → client ≡ None
is_closed None e = refl
is_closed (Some client) e = cc

all_within : (rows settings server : Bool) → (rows && settings) ≡ true → server ≡ true
    → (rows && settings && server) ≡ true
all_within false settings server p q = cc
all_within true false server p q = cc
all_within true true server p q = q

settings_outside : (rows settings server : Bool) → (rows && settings) ≡ false → (rows && settings && server) ≡ false
settings_outside false settings server p = refl
settings_outside true false server p = refl
settings_outside true true server p = cc

server_outside : (rows settings server : Bool) → (rows && settings) ≡ true → server ≡ false
    → (rows && settings && server) ≡ false
server_outside false settings server p q = cc
server_outside true false server p q = cc
server_outside true true server p q = q

pub returns-then-is_open : goal.returns-then-is_open
returns-then-is_open c = inr (inl (
  refl,
  isnt_closed c.args.handle.now.client (sym c.is_open.ensures.value ∙ c.if-is_open.true),
  c.is_open.ensures.same,
))

pub returns-then-not-are_settings_in_limits : goal.returns-then-not-are_settings_in_limits
returns-then-not-are_settings_in_limits c =
    let a = c.args in
    let rows = are_rows a.devices.now a.reserved.now in
    let settings = is_none (first_outside
    (settings_of_rows a.pool a.users.now a.files.now a.devices.now a.reserved.now a.passes)) in
    let server = is_none (server.first_outside a.lanes a.cache) in
    let outside : (rows && settings && server) ≡ false = elim c.then-not-are_settings_in_limits.branch [
      | goal.then-not-are_settings_in_limits-via-then-not-are_settings_in_limits w ↦
          settings_outside rows settings server
          (sym c.are_settings_in_limits.ensures ∙ w.if-not-are_settings_in_limits.true)
      | goal.then-not-are_settings_in_limits-via-else-not-are_settings_in_limits+then-not-is_server_in_limits w ↦
          server_outside rows settings server
          (sym c.are_settings_in_limits.ensures ∙ w.if-not-are_settings_in_limits.false)
          (sym w.is_server_in_limits.ensures ∙ w.if-not-is_server_in_limits.true)
    ] in
    inr (inr (inl (
      refl,
      outside,
      is_closed a.handle.now.client (sym c.is_open.ensures.value ∙ c.if-is_open.false),
      c.is_open.ensures.same,
    )))

pub returns-in-Ok : goal.returns-in-Ok
returns-in-Ok c =
    let a = c.args in
    let asked = settings_of_rows a.pool a.users.now a.files.now a.devices.now a.reserved.now a.passes in
    let told = c.open.result in
    let before = c.is_open.new.self.client in
    let after = c.open.new.self.client in
    inl (
      told,
      subst (λ (client : Option Client). Opens client asked a.lanes a.cache told after) c.is_open.ensures.same
          (subst (λ (s : Settings). Opens before s a.lanes a.cache told after) c.in-Ok.ensures c.open.ensures),
      search rules,
      all_within (are_rows a.devices.now a.reserved.now) (is_none (first_outside asked))
          (is_none (server.first_outside a.lanes a.cache))
          (sym c.are_settings_in_limits.ensures ∙ c.if-not-are_settings_in_limits.false)
          (sym c.is_server_in_limits.ensures ∙ c.if-not-is_server_in_limits.false),
    )

pub returns-in-Err : goal.returns-in-Err
returns-in-Err c =
    let a = c.args in
    let asked = settings_of_rows a.pool a.users.now a.files.now a.devices.now a.reserved.now a.passes in
    inr (inr (inr (
      refl,
      all_within (are_rows a.devices.now a.reserved.now) (is_none (first_outside asked))
          (is_none (server.first_outside a.lanes a.cache))
          (sym c.are_settings_in_limits.ensures ∙ c.if-not-are_settings_in_limits.false)
          (sym c.is_server_in_limits.ensures ∙ c.if-not-is_server_in_limits.false),
      is_closed a.handle.now.client (sym c.is_open.ensures.value ∙ c.if-is_open.false),
      c.is_open.ensures.same,
    )))
