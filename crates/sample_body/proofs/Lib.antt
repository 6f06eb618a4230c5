mod GateCa
mod FiveItems
