mod GateCa
mod RoundsLemmas
