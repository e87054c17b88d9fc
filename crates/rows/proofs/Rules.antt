-- A rule over our control store, from one test over all of it. Assumes nothing.
use Rattle.std.proofs.Common.{◌≡◌, ℕ, Bool, true, lit<}
use Rattle.rows.specs.Rules.{at_code, EveryStep, EveryCode}
use Rattle.rows.proofs.Table.{all_codes, some_code}

pub every_step : {rule : ℕ → ℕ → Bool} → all_codes (λ code t. rule t (at_code code t)) 32 ≡ true → EveryStep rule
every_step {rule} e = record { keeps = λ code t h l. some_code (λ code t. rule t (at_code code t)) 32 code t h l e }

pub every_code : {rule : ℕ → Bool} → all_codes (λ code t. rule code) 32 ≡ true → EveryCode rule
every_code {rule} e = record { keeps = λ code h. some_code (λ code t. rule code) 32 code 0 h (lit< tt) e }
