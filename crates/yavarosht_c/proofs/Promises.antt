-- Each export promises what the function of yavarosht promises that has its name: their contracts are one and the same. So what is proved of
-- the promises of that crate, that any two outcomes coincide among them, is proved of the exports.
--
-- Main results: `judge-same`, `fetch-same`, `collect-same`, `product-same`, `inverse-same`, `depth-same`, `check-same`.
use Rattle.std.proofs.Common.{◌≡◌, refl}
use seplogic.Ra.Ura.{Ura}
use base.Logic.{SProp}
use prog.Memory.{Memory}
use prog.Routine.{Routine}
use types.Logic.{Logic}
use contract.Lifetimes.{Lfts}
use contract.Monad.{Fun}
use denote.Triple.Entry.{Args}
use Rattle.yavarosht.specs.contracts.opening.yav_judge as judge
use Rattle.yavarosht.specs.contracts.opening.yav_fetch as fetch
use Rattle.yavarosht.specs.contracts.calls.yav_collect as collect
use Rattle.yavarosht.specs.contracts.calls.yav_product as product
use Rattle.yavarosht.specs.contracts.calls.yav_inverse as inverse
use Rattle.yavarosht.specs.contracts.calls.yav_depth as depth
use Rattle.yavarosht.specs.contracts.checking.yav_check as check
use Rattle.yavarosht_c.specs.contracts.yav_judge as judge_c
use Rattle.yavarosht_c.specs.contracts.yav_fetch as fetch_c
use Rattle.yavarosht_c.specs.contracts.yav_collect as collect_c
use Rattle.yavarosht_c.specs.contracts.yav_product as product_c
use Rattle.yavarosht_c.specs.contracts.yav_inverse as inverse_c
use Rattle.yavarosht_c.specs.contracts.yav_depth as depth_c
use Rattle.yavarosht_c.specs.contracts.yav_check as check_c

module _ {M : Type 1} {𝓤 : Ura M} (𝓛 : Logic 𝓤) (mem : Memory → SProp 𝓤) (run : Routine → Fun 𝓤) where
  pub judge-same : (κs : Lfts 1) (a : Args judge.signature κs) → judge_c.spec 𝓛 mem run κs a ≡ judge.spec 𝓛 mem run κs a
  judge-same κs a = refl

  pub fetch-same : (κs : Lfts 3) (a : Args fetch.signature κs) → fetch_c.spec 𝓛 mem run κs a ≡ fetch.spec 𝓛 mem run κs a
  fetch-same κs a = refl

  pub collect-same : (κs : Lfts 5) (a : Args collect.signature κs) → collect_c.spec 𝓛 mem run κs a ≡ collect.spec 𝓛 mem run κs a
  collect-same κs a = refl

  pub product-same : (κs : Lfts 5) (a : Args product.signature κs) → product_c.spec 𝓛 mem run κs a ≡ product.spec 𝓛 mem run κs a
  product-same κs a = refl

  pub inverse-same : (κs : Lfts 4) (a : Args inverse.signature κs) → inverse_c.spec 𝓛 mem run κs a ≡ inverse.spec 𝓛 mem run κs a
  inverse-same κs a = refl

  pub depth-same : (κs : Lfts 3) (a : Args depth.signature κs) → depth_c.spec 𝓛 mem run κs a ≡ depth.spec 𝓛 mem run κs a
  depth-same κs a = refl

  pub check-same : (κs : Lfts 5) (a : Args check.signature κs) → check_c.spec 𝓛 mem run κs a ≡ check.spec 𝓛 mem run κs a
  check-same κs a = refl
