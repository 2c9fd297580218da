pub mod ModelExchanged
